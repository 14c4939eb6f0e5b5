use Rattle.std.proofs.Common.{◌≡◌, drop}
use Rattle.td_assign.specs.ForProofs.Lists.{given_to}
use Rattle.td_assign.proofs.changes.given_relation.Given as goal

abbrev pub invariant-loop-change : goal.invariant-loop-change
invariant-loop-change l = given_to (drop l.change-index l.changes) l.target ≡ given_to l.changes l.target
