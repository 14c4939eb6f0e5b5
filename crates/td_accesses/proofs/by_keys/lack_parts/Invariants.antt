use Rattle.std.proofs.Common.{All, take}
use Rattle.td_accesses.specs.ForProofs.Growing.{LacksPart}
use Rattle.td_accesses.proofs.by_keys.lack_parts.Given as goal

abbrev pub invariant-loop-tuple : goal.invariant-loop-tuple
invariant-loop-tuple l = All (LacksPart l.index) (take l.tuple-index l.tuples)
