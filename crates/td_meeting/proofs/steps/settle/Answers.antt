use Rattle.std.proofs.Common.{rules, ◌≡◌, ◌∙◌, true, sym, ap}
use Rattle.std.proofs.KnownBytes.{Keeps-trans}
use Rattle.td_io.specs.Counted.{counted}
use Rattle.td_meeting.proofs.Whole.{keeps_as, settled, settled_front, unsettled}
use Rattle.td_meeting.proofs.steps.settle.Goals as goal

pub returns-in-Err-receive-clause-settled : goal.returns-in-Err-receive-clause-settled
returns-in-Err-receive-clause-settled g c =
    let s = g.R.Replica.seen c.args.site.now in
    let heard = c.hear.new.source in
    let end = c.receive.new.source in
    let C = g.met.C.Channel in
    let live : s.live ≡ true = search rules in
    unsettled s _ (g.C.Source.left heard) _ _ _ _ (g.C.Source.failures heard) _ _ _ c.in-Ok.greeting c.in-Err-receive.error _ live c.in-Ok.ensures.heard.0 c.in-Ok.ensures.heard.1
    (keeps_as _ _ _ _ (C.same_held c.args.link.now) (C.same_held end) (Keeps-trans _ _ _ c.in-Ok.ensures.beside c.in-Err-receive.ensures.beside)) c.in-Err-receive.ensures.err

pub returns-in-Ok-send-clause-settled : goal.returns-in-Ok-send-clause-settled
returns-in-Ok-send-clause-settled g c =
    let s = g.R.Replica.seen c.args.site.now in
    let heard = c.hear.new.source in
    let took = c.receive.new.source in
    let end = c.send.new.sink in
    let C = g.met.C.Channel in
    let live : s.live ≡ true = search rules in
    settled s _ (g.C.Source.left heard) (g.C.Source.left took) _ _ (g.C.Sink.held took) _ _ (g.C.Source.failures heard) (g.C.Source.failures took) _ _ _ c.in-Ok.greeting c.in-Ok-receive.taken _ live c.in-Ok.ensures.heard.0 c.in-Ok.ensures.heard.1
    c.in-Ok-receive.ensures.ok (keeps_as _ _ _ _ (C.same_held c.args.link.now) (C.same_held took) (Keeps-trans _ _ _ c.in-Ok.ensures.beside c.in-Ok-receive.ensures.beside))
    c.in-Ok-send.ensures.bytes c.in-Ok-send.ensures.has (sym (C.same_count end) ∙ c.in-Ok-send.ensures.count ∙ C.same_count took) c.in-Ok-send.ensures.flushed (keeps_as _ _ _ _ (C.same_left took) (C.same_left end) c.in-Ok-send.ensures.aside)

pub returns-clause-settled : goal.returns-clause-settled
returns-clause-settled g c =
    let s = g.R.Replica.seen c.args.site.now in
    let heard = c.hear.new.source in
    let took = c.receive.new.source in
    let end = c.send.new.sink in
    let C = g.met.C.Channel in
    let live : s.live ≡ true = search rules in
    settled_front s _ (g.C.Source.left heard) (g.C.Source.left took) _ _ (g.C.Sink.held took) _ _ (g.C.Source.failures heard) (g.C.Source.failures took) _ _ _ c.in-Ok.greeting c.in-Ok-receive.taken _ live c.in-Ok.ensures.heard.0 c.in-Ok.ensures.heard.1
    c.in-Ok-receive.ensures.ok (keeps_as _ _ _ _ (C.same_held c.args.link.now) (C.same_held took) (Keeps-trans _ _ _ c.in-Ok.ensures.beside c.in-Ok-receive.ensures.beside))
    c.in-Err-send.ensures.bytes (sym (C.same_count end) ∙ c.in-Err-send.ensures.count ∙ ap counted (C.same_count took)) (keeps_as _ _ _ _ (C.same_left took) (C.same_left end) c.in-Err-send.ensures.aside)
