use Rattle.std.proofs.Common.{◌≡◌, drop}
use Rattle.td_comparison.specs.Digests.{rises}
use Rattle.td_comparison.proofs.reading.rises.Given as goal

abbrev pub invariant-loop-site : goal.invariant-loop-site
invariant-loop-site l = rises 0 l.sites ≡ rises l.last (drop l.site-index l.sites)
