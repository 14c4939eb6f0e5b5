use Rattle.std.proofs.Common.{codes}
use Rattle.td_answers.specs.Linked.{CallsOver}
use Rattle.td_answers.proofs.Opened.{tells_linked, tells_unlinked}
use Rattle.td_answers.proofs.Saying.{says_more}
use Rattle.td_answers.proofs.linking.call.Goals as goal

pub returns-in-Ok-call-clause-answered : goal.returns-in-Ok-call-clause-answered
returns-in-Ok-call-clause-answered g c =
    says_more _ _ c.reply_of_meeting.result
    (λ text. tells_linked CallsOver g.L.Links.calls (codes "called") c.args.number c.args.address.now (g.R.Replica.seen c.args.site.now) c.in-Ok.ready.0 text (g.R.Replica.seen c.call_link.new.site) c.args.links.now c.call.new.self c.call_link.result c.in-Ok.ensures.0 c.call.ensures.asked c.call_link.ensures.called)
    c.reply_of_meeting.ensures

pub returns-in-Err-call-clause-answered : goal.returns-in-Err-call-clause-answered
returns-in-Err-call-clause-answered g c =
    tells_unlinked CallsOver g.L.Links.calls (codes "called") c.args.number c.args.address.now (g.R.Replica.seen c.args.site.now) c.in-Ok.ready.0 c.in-Err-call.error c.link_fault.result.now c.args.links.now c.call.new.self c.in-Ok.ensures.0 c.call.ensures.asked c.link_fault.ensures
