use Rattle.std.proofs.Common.{◌≡◌, ◌++◌, drop}
use Rattle.std.specs.List.{flat_map}
use Rattle.td_headings.specs.Expressions.{reads}
use Rattle.td_headings.specs.declared.statement.TypedAssignment.{TypedAssignment}
use Rattle.td_assign.proofs.names.add_reads.Given as goal

abbrev pub invariant-loop-assignment : goal.invariant-loop-assignment
invariant-loop-assignment l =
    l.initial.places.items ++ flat_map (λ (x : TypedAssignment). reads x.source) l.assignments
    ≡ l.places.items ++ flat_map (λ (x : TypedAssignment). reads x.source) (drop l.assignment-index l.assignments)
