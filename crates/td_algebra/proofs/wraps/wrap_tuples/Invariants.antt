use Rattle.std.proofs.Common.{◌≡◌, take, map}
use Rattle.td_algebra.specs.ForProofs.Index.{wrapped}
use Rattle.td_tuples.specs.Parts.{names_of}
use Rattle.td_algebra.proofs.wraps.wrap_tuples.Given as goal

abbrev pub invariant-loop-t : goal.invariant-loop-t
invariant-loop-t l = l.out.items ≡ map (wrapped (names_of l.inner) (names_of l.outer) l.name) (take l.t-index l.tuples)
