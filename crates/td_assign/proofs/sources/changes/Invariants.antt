use Rattle.std.proofs.Common.{◌≡◌, drop}
use Rattle.td_semantics.specs.Databases.{stored_relvars}
use Rattle.td_assign.specs.ForProofs.Given.{AreChanges}
use Rattle.td_assign.specs.ForProofs.Lists.{given_to}
use Rattle.td_semantics.specs.Given.{nothing_given}
use Rattle.td_semantics.specs.Sources.{sources}
use Rattle.td_assign.proofs.sources.changes.Given as goal

abbrev pub invariant-loop-assignment : goal.invariant-loop-assignment
invariant-loop-assignment l = record {
  left : sources l.database.catalogue (stored_relvars l.database.stored) (given_to l.changes.items) (drop l.assignment-index l.assignments) ≡ sources l.database.catalogue (stored_relvars l.database.stored) nothing_given l.assignments;
  given : AreChanges l.database.catalogue l.changes.items;
}
