use Rattle.std.proofs.Common.{◌≡◌, take, map}
use Rattle.td_tuples.specs.Renamings.{renamed}
use Rattle.td_algebra.proofs.parts.rename_all.Given as goal

abbrev pub invariant-loop-t : goal.invariant-loop-t
invariant-loop-t l = l.named.items ≡ map (renamed l.items) (take l.t-index l.tuples)
