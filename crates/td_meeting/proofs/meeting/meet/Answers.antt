use Rattle.td_meeting.proofs.Exchanged.{is_answer, not_answered}
use Rattle.td_meeting.proofs.meeting.meet.Goals as goal

pub returns-in-Err-answer_in-clause-meets : goal.returns-in-Err-answer_in-clause-meets
returns-in-Err-answer_in-clause-meets g c =
    not_answered (g.A.Replica.seen c.args.first.now) (g.B.Replica.seen c.args.second.now) c.in-Ok-greeting_of.greeting.items c.deref.result.now c.in-Err-answer_in.error c.refusal-in-Err-answer_in.result c.deref.ensures.value c.in-Ok-greeting_of.ensures
    c.in-Ok.ensures.0 c.in-Ok.ensures.1 c.refusal-in-Err-answer_in.ensures c.in-Err-answer_in.ensures.answered

pub exchange-requires-clause-answer : goal.exchange-requires-clause-answer
exchange-requires-clause-answer g c =
    is_answer (g.A.Replica.seen c.args.first.now) (g.B.Replica.seen c.args.second.now) c.in-Ok-greeting_of.greeting.items c.deref.result.now c.in-Ok-answer_in.answer.items c.deref-2.result.now c.deref.ensures.value c.deref-2.ensures.value
    c.in-Ok-greeting_of.ensures c.in-Ok-answer_in.ensures.answered
