use Rattle.td_comparison.proofs.Stays.{prefixes_stay}
use Rattle.td_digested_sites.proofs.site.DigestedSiteReplica.issue.Goals as goal

pub invariant_of-self : goal.invariant_of-self
invariant_of-self g c =
    let grown = c.issue_within.ensures.grows in
    prefixes_stay _ _ grown.was_set grown.set grown.ranges grown.stays c.self.inside.prefixes c.self.invariant
