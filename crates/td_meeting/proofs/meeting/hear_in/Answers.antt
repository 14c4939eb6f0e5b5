use Rattle.td_meeting.proofs.Carrying.{heard_in}
use Rattle.td_meeting.proofs.meeting.hear_in.Goals as goal

pub returns-clause-heard : goal.returns-clause-heard
returns-clause-heard g c = heard_in (g.R.Replica.seen c.args.site.now) c.args.bytes.now.rest.now c.hear.new.source.rest.now c.hear.result c.hear.ensures.heard c.hear.ensures.unheard
