use Rattle.std.proofs.Common.{◌≡◌, ◌++◌, map, drop}
use Rattle.td_headings.specs.declared.statement.TypedAssignment.{TypedAssignment}
use Rattle.td_headings.proofs.statement.add_targets.Given as goal

abbrev pub invariant-loop-assignment : goal.invariant-loop-assignment
invariant-loop-assignment l = l.initial.places.items ++ map (λ (x : TypedAssignment). x.target) l.assignments ≡ l.places.items ++ map (λ (x : TypedAssignment). x.target) (drop l.assignment-index l.assignments)
