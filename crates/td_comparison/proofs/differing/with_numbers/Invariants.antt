use Rattle.std.proofs.Common.{◌≡◌, take, map}
use Rattle.td_comparison.specs.ForProofs.{with_number}
use Rattle.td_comparison.proofs.differing.with_numbers.Given as goal

abbrev pub invariant-loop-digest : goal.invariant-loop-digest
invariant-loop-digest l = l.numbered.items ≡ map (with_number l.vector) (take l.digest-index l.digests)
