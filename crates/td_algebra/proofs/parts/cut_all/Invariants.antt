use Rattle.std.proofs.Common.{◌≡◌, take, map}
use Rattle.td_tuples.specs.Parts.{cut, names_of}
use Rattle.td_algebra.proofs.parts.cut_all.Given as goal

abbrev pub invariant-loop-t : goal.invariant-loop-t
invariant-loop-t l = l.parts.items ≡ map (cut (names_of l.heading)) (take l.t-index l.tuples)
