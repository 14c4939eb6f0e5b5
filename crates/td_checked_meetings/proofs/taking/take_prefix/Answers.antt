use Rattle.td_checked_meetings.proofs.Told.{takes_none}
use Rattle.td_checked_meetings.proofs.taking.take_prefix.Goals as goal

pub returns-in-Err-clause-cut : goal.returns-in-Err-clause-cut
returns-in-Err-clause-cut g c = takes_none (g.R.Replica.seen c.args.site.now) c.args.scope.now c.args.batch.items (g.R.Replica.seen c.take_sifted.new.site) c.args.error c.in-Err.error c.in-Err.ensures.err
