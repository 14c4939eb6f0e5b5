use Rattle.std.proofs.Common.{◌≡◌, drop}
use Rattle.td_integrity.specs.ForProofs.Changed.{change_to}
use Rattle.td_integrity.proofs.judging.change_of.Given as goal

abbrev pub invariant-loop-change : goal.invariant-loop-change
invariant-loop-change l = change_to (drop l.change-index l.changes) l.relvar ≡ change_to l.changes l.relvar
