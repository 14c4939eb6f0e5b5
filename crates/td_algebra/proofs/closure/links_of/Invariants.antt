use Rattle.std.proofs.Common.{take}
use Rattle.td_algebra.specs.ForProofs.Ends.{AreLinks}
use Rattle.td_algebra.proofs.closure.links_of.Given as goal

abbrev pub invariant-loop-tuple : goal.invariant-loop-tuple
invariant-loop-tuple l = AreLinks l.first l.second l.ends (take l.tuple-index l.tuple-items) l.links
