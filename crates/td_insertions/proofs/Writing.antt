-- What a statement inserts as it is written.
use Rattle.std.proofs.Common.{◌≡◌, ◌∷◌, [], None, Option, Some, Result, Ok, Err, IfOk, IfSome}
use Rattle.td_headings.specs.declared.statement.TypedAssignment.{TypedAssignment}
use Rattle.td_headings.specs.declared.statement.TypedStatement.{TypedStatement}
use Rattle.td_headings.specs.declared.statement.TypedStatement.TheVariants as statement
use Rattle.td_insertions.specs.ForProofs.Written.{IsWritten, IsWrittenBy}
use Rattle.td_insertions.specs.declared.written.Written.{Written}

pub by_its_assignment : {E : Type 0} (x : TypedStatement) (a : TypedAssignment) → x ≡ statement.Assignment (a ∷ []) → (m : Result (Option Written) E) → IfOk m (λ o. IfSome o (λ w. IsWrittenBy a w.target w.many)) → IfOk m (λ o. IfSome o (λ w. IsWritten x w.target w.many))
by_its_assignment x a alone (Ok None) by = tt
by_its_assignment x a alone (Ok (Some w)) by = record { assignment = a; alone = alone; by = by }
by_its_assignment x a alone (Err e) by = tt
