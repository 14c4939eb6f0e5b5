use Rattle.td_meeting.proofs.Carrying.{received_in}
use Rattle.td_meeting.proofs.meeting.receive_in.Goals as goal

pub returns-clause-received : goal.returns-clause-received
returns-clause-received g c = received_in (g.R.Replica.seen c.args.site.now) c.args.bytes.now.rest.now c.receive.new.source.rest.now c.receive.result (g.R.Replica.seen c.receive.new.site) c.receive.ensures.ok c.receive.ensures.err
