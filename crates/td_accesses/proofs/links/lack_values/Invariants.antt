use Rattle.std.proofs.Common.{All, take}
use Rattle.td_accesses.specs.ForProofs.Growing.{LacksPart}
use Rattle.td_accesses.proofs.links.lack_values.Given as goal

abbrev pub invariant-loop-tuple : goal.invariant-loop-tuple
invariant-loop-tuple l = All (LacksPart l.link) (take l.tuple-index l.tuples)
