use Rattle.std.proofs.Common.{◌≡◌, take}
use Rattle.td_values.proofs.values.copy_tuples.Given as goal

abbrev pub invariant-loop-t : goal.invariant-loop-t
invariant-loop-t l = l.tuples.items ≡ take l.t-index l.a
