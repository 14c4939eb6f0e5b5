use Rattle.std.proofs.Common.{codes}
use Rattle.td_answers.specs.Linked.{ServesOver}
use Rattle.td_answers.proofs.Opened.{tells_linked, tells_unlinked}
use Rattle.td_answers.proofs.Saying.{says_more}
use Rattle.td_answers.proofs.linking.serve.Goals as goal

pub returns-in-Ok-serve-clause-answered : goal.returns-in-Ok-serve-clause-answered
returns-in-Ok-serve-clause-answered g c =
    says_more _ _ c.reply_of_meeting.result
    (λ text. tells_linked ServesOver g.L.Links.serves (codes "served") c.args.number c.args.address.now (g.R.Replica.seen c.args.site.now) c.in-Ok.ready.0 text (g.R.Replica.seen c.serve_link.new.site) c.args.links.now c.serve.new.self c.serve_link.result c.in-Ok.ensures.0 c.serve.ensures.asked c.serve_link.ensures.served)
    c.reply_of_meeting.ensures

pub returns-in-Err-serve-clause-answered : goal.returns-in-Err-serve-clause-answered
returns-in-Err-serve-clause-answered g c =
    tells_unlinked ServesOver g.L.Links.serves (codes "served") c.args.number c.args.address.now (g.R.Replica.seen c.args.site.now) c.in-Ok.ready.0 c.in-Err-serve.error c.link_fault.result.now c.args.links.now c.serve.new.self c.in-Ok.ensures.0 c.serve.ensures.asked c.link_fault.ensures
