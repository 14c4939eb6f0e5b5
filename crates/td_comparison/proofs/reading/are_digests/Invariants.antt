use Rattle.std.proofs.Common.{◌≡◌, nat_le, ◌&&◌, drop}
use Rattle.std.specs.List.{list_all}
use Rattle.td_comparison.specs.Digests.{rises, digest_sites}
use Rattle.td_comparison.specs.Messages.{are_digests}
use Rattle.td_comparison.proofs.reading.are_digests.Given as goal

abbrev pub invariant-loop-digest : goal.invariant-loop-digest
invariant-loop-digest l = are_digests l.digests ≡ (rises l.last (digest_sites (drop l.digest-index l.digests)) && list_all (λ d. nat_le d.number 1000000000) (drop l.digest-index l.digests))
