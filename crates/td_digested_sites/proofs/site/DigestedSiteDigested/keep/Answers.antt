use Rattle.std.proofs.Common.{sym, subst}
use Rattle.td_comparison.specs.Hashed.{AreHashed}
use Rattle.td_digested_sites.proofs.site.DigestedSiteDigested.keep.Goals as goal

pub invariant_of-self : goal.invariant_of-self
invariant_of-self g c =
    c.keep.ensures (g.R.Replica.seen c.self.inside.site).entries c.site-site.ensures.sound.set
    (subst (λ r. AreHashed (g.R.Replica.seen r).entries c.args.feeds.items) (sym c.self.view_is) c.requires) c.self.invariant
