use Rattle.std.proofs.Common.{◌≡◌, ℕ, List, Option, Some, None, Bor, nat_cmp, sym}
use Rattle.std.specs.BTreeMap as by_site
use Rattle.std.specs.Option.{option_copied}
use Rattle.std.specs.Prelude.{IfSome}
use Rattle.td_stamps.specs.declared.entry.Entry.{Entry}
use Rattle.td_comparison.specs.Hashed.{ArePrefixesOf, IsPrefixOf}
use Rattle.td_comparison.specs.declared.prefixes.SitePrefix.{SitePrefix}
use Rattle.td_comparison.specs.declared.prefixes.SitePrefixes.{SitePrefixes}
use Rattle.td_comparison.proofs.prefixes.SitePrefixes.of_site.Goals as goal

found_true : (o : Option (Bor SitePrefix)) (known : SitePrefixes) (site : ℕ) → option_copied o ≡ by_site.get nat_cmp known.by_site site → IfSome o (λ p. (xs : List Entry) → ArePrefixesOf xs known → IsPrefixOf xs site p.now)
found_true None known site is = tt
found_true (Some p) known site is = λ xs before. before site p.now (sym is)

pub returns : goal.returns
returns c = found_true c.get.result c.args.self.now c.args.site c.get.ensures.value
