use Rattle.std.proofs.Common.{◌≡◌, take}
use Rattle.td_eval.proofs.naming.all_named_as.Given as goal

abbrev pub invariant-loop-tuple : goal.invariant-loop-tuple
invariant-loop-tuple l = l.named.items ≡ take l.tuple-index l.tuples
