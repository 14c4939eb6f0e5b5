use Rattle.td_digested_sites.proofs.Growing.{take_grows}
use Rattle.td_digested_sites.proofs.within.take_within.Goals as goal

pub returns-clause-grows : goal.returns-clause-grows
returns-clause-grows g c = take_grows (g.R.Replica.seen c.args.site.now) _ c.args.batch.now c.take-taken.result c.site-before.ensures.sound c.site-after.ensures.sound c.take-taken.ensures.takes
