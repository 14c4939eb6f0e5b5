use Rattle.std.proofs.Common.{drop}
use Rattle.td_headings.proofs.StatementLemmas.{Walked}
use Rattle.td_headings.proofs.statement.type_assignments.Given as goal

abbrev pub invariant-loop-action : goal.invariant-loop-action
invariant-loop-action l = Walked l.catalogue l.actions (drop l.action-index l.actions) l.found
