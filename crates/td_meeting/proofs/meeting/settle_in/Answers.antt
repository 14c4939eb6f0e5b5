use Rattle.td_meeting.proofs.Exchanged.{settles_unheard, settles_untaken}
use Rattle.td_meeting.proofs.meeting.settle_in.Goals as goal

pub returns-in-Err-clause-settled : goal.returns-in-Err-clause-settled
returns-in-Err-clause-settled g c = settles_unheard (g.R.Replica.seen c.args.site.now) c.new-incoming.result.rest.now c.args.bytes.now c.hear_in.new.bytes.rest.now c.in-Err.error c.refusal.result c.new-incoming.ensures c.refusal.ensures c.in-Err.ensures.heard

pub returns-in-Err-receive_in-clause-settled : goal.returns-in-Err-receive_in-clause-settled
returns-in-Err-receive_in-clause-settled g c =
    settles_untaken (g.R.Replica.seen c.args.site.now) c.new-incoming.result.rest.now c.args.bytes.now c.hear_in.new.bytes.rest.now c.in-Ok.greeting c.in-Err-receive_in.error c.refusal-in-Err-receive_in.result (g.R.Replica.seen c.receive_in.new.site)
    c.new-incoming.ensures c.refusal-in-Err-receive_in.ensures c.in-Ok.ensures.heard c.in-Err-receive_in.ensures.received
