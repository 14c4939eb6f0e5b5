use Rattle.std.proofs.Common.{rules, ◌≡◌, ℕ, true, subst}
use Rattle.td_meeting.specs.ForProofs.Parts.{Replied}
use Rattle.td_meeting.proofs.Whole.{answered, keeps_as}
use Rattle.td_meeting.proofs.steps.answer.Goals as goal

pub returns : goal.returns
returns g c =
    let s = g.R.Replica.seen c.args.site.now in
    let link = c.hear.new.source in
    let end = c.reply.new.sink in
    let C = g.met.C.Channel in
    let live : s.live ≡ true = search rules in
    let told : Replied s c.in-Ok.greeting.vector (g.C.Sink.held link) (g.C.Sink.held end) (g.C.Source.failures link) (g.C.Source.failures end) c.reply.result =
    subst (λ (n : ℕ). Replied s c.in-Ok.greeting.vector (g.C.Sink.held link) (g.C.Sink.held end) n (g.C.Source.failures end) c.reply.result) (C.same_count link)
    (subst (λ (n : ℕ). Replied s c.in-Ok.greeting.vector (g.C.Sink.held link) (g.C.Sink.held end) (g.C.Sink.faults link) n c.reply.result) (C.same_count end) c.reply.ensures.told) in
    answered s _ (g.C.Source.left link) (g.C.Source.left end) _ (g.C.Sink.held link) (g.C.Sink.held end) _ (g.C.Source.failures link) (g.C.Source.failures end) _ _ c.in-Ok.greeting c.reply.result live
    c.in-Ok.ensures.heard.0 c.in-Ok.ensures.heard.1 (keeps_as _ _ _ _ (C.same_held c.args.link.now) (C.same_held link) c.in-Ok.ensures.beside) told c.reply.ensures.flushed
    (keeps_as _ _ _ _ (C.same_left link) (C.same_left end) c.reply.ensures.aside)
