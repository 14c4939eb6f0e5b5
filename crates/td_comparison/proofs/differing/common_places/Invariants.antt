use Rattle.std.proofs.Common.{◌≡◌, take, map}
use Rattle.td_comparison.specs.ForProofs.{common_place}
use Rattle.td_comparison.proofs.differing.common_places.Given as goal

abbrev pub invariant-loop-digest : goal.invariant-loop-digest
invariant-loop-digest l = l.places.items ≡ map (common_place l.vector) (take l.digest-index l.digests)
