use Rattle.std.proofs.Common.{◌≡◌, take}
use Rattle.std.specs.List.{flat_map}
use Rattle.td_algebra.specs.ForProofs.Ends.{ends_in}
use Rattle.td_algebra.proofs.closure.ends_of.Given as goal

abbrev pub invariant-loop-tuple : goal.invariant-loop-tuple
invariant-loop-tuple l = l.ends.items ≡ flat_map (ends_in l.first l.second) (take l.tuple-index l.tuples)
