use Rattle.std.proofs.Common.{subst}
use Rattle.td_comparison.specs.Hashed.{ArePrefixesOf}
use Rattle.td_digested_sites.proofs.site.DigestedSiteDigested.prefixes.Goals as goal

pub returns : goal.returns
returns g c = subst (λ r. ArePrefixesOf (g.R.Replica.seen r).entries c.self.inside.prefixes) c.self.view_is c.self.invariant
