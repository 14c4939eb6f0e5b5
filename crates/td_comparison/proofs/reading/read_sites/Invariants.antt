use Rattle.std.proofs.Common.{◌≡◌, ℕ, ◌*◌, ◌++◌, length}
use Rattle.td_comparison.specs.Messages.{sites_in}
use Rattle.td_comparison.proofs.reading.read_sites.Given as goal

abbrev pub invariant-loop-site : goal.invariant-loop-site
invariant-loop-site l = record {
  left : (n : ℕ) × (length l.site-iterator.rest.now ≡ 2 * n) × (l.sites.items ++ sites_in n l.site-iterator.rest.now ≡ sites_in l.count l.bytes);
  size : l.site-iterator.size ≡ 2;
}
