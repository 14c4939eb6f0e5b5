use Rattle.std.proofs.Common.{All, take}
use Rattle.td_integrity.specs.ForProofs.Leaving.{HasPartIn}
use Rattle.td_integrity.proofs.ways.have_parts.Given as goal

abbrev pub invariant-loop-tuple : goal.invariant-loop-tuple
invariant-loop-tuple l = All (HasPartIn l.index) (take l.tuple-index l.tuples)
