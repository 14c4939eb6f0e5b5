use Rattle.td_meeting.proofs.Exchanged.{no_reply}
use Rattle.td_meeting.proofs.meeting.answer_in.Goals as goal

pub returns-in-Err-clause-answered : goal.returns-in-Err-clause-answered
returns-in-Err-clause-answered g c = no_reply (g.R.Replica.seen c.args.site.now) c.new.result.rest.now c.args.bytes.now c.hear_in.new.bytes.rest.now c.in-Err.error c.new.ensures c.in-Err.ensures.heard
