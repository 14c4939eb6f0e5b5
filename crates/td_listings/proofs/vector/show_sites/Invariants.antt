use Rattle.std.proofs.Common.{◌≡◌, ◌++◌, take, string_bytes}
use Rattle.std.specs.List.{flat_map}
use Rattle.td_listings.specs.Texts as spec
use Rattle.td_listings.proofs.vector.show_sites.Given as goal

abbrev pub invariant-loop-site : goal.invariant-loop-site
invariant-loop-site l = string_bytes l.out ≡ string_bytes l.initial.out ++ flat_map spec.site_word (take l.site-index l.sites)
