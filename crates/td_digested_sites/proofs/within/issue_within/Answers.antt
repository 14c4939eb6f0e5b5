use Rattle.td_digested_sites.proofs.Growing.{issue_grows}
use Rattle.td_digested_sites.proofs.within.issue_within.Goals as goal

pub returns-clause-grows : goal.returns-clause-grows
returns-clause-grows g c = issue_grows (g.R.Replica.seen c.args.site.now) _ c.args.text.now c.issue-issued.result c.site-before.ensures.sound c.site-after.ensures.sound c.issue-issued.ensures.issues
