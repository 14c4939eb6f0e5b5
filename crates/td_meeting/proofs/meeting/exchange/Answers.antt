use Rattle.std.proofs.Common.{◌∙◌, ℕ, List, Ok, Err, subst}
use Rattle.td_meeting.specs.ForProofs.Carried.{ReceivesIn}
use Rattle.td_meeting.proofs.Exchanged.{meets_stopped, meets_whole, meets_halted, settles}
use Rattle.td_meeting.proofs.meeting.exchange.Goals as goal

pub returns-in-Err-clause-meets : goal.returns-in-Err-clause-meets
returns-in-Err-clause-meets g c =
    meets_stopped (g.A.Replica.seen c.args.first.now) (g.B.Replica.seen c.args.second.now) c.args.answer.now c.requires.answer c.requires.live c.requires.two c.in-Err.refusal (g.A.Replica.seen c.settle_in.new.site) c.requires.sound.1 c.in-Err.ensures.settled

pub returns-in-Ok-receive_in-clause-meets : goal.returns-in-Ok-receive_in-clause-meets
returns-in-Ok-receive_in-clause-meets g c =
    let s = g.A.Replica.seen c.args.first.now in
    let t = g.B.Replica.seen c.args.second.now in
    let after = g.A.Replica.seen c.settle_in.new.site in
    let other = g.B.Replica.seen c.receive_in.new.site in
    let out = c.in-Ok.settled.1.items in
    let settled = settles s t c.args.answer.now c.requires.answer c.requires.live c.requires.two (Ok (c.in-Ok.settled.0, out)) after c.requires.sound.1 c.in-Ok.ensures.settled in
    let told : ReceivesIn t out (Ok c.in-Ok-receive_in.gives) other = subst (λ (l : List ℕ). ReceivesIn t l (Ok c.in-Ok-receive_in.gives) other) (c.new.ensures ∙ c.deref.ensures.value) c.in-Ok-receive_in.ensures.received in
    meets_whole s t c.args.answer.now c.requires.answer c.requires.live c.requires.two c.in-Ok.settled.0 out after c.requires.sound.0 settled c.in-Ok-receive_in.gives other told

pub returns-clause-meets : goal.returns-clause-meets
returns-clause-meets g c =
    let s = g.A.Replica.seen c.args.first.now in
    let t = g.B.Replica.seen c.args.second.now in
    let after = g.A.Replica.seen c.settle_in.new.site in
    let other = g.B.Replica.seen c.receive_in.new.site in
    let out = c.in-Ok.settled.1.items in
    let settled = settles s t c.args.answer.now c.requires.answer c.requires.live c.requires.two (Ok (c.in-Ok.settled.0, out)) after c.requires.sound.1 c.in-Ok.ensures.settled in
    let told : ReceivesIn t out (Err c.in-Err-receive_in.error) other = subst (λ (l : List ℕ). ReceivesIn t l (Err c.in-Err-receive_in.error) other) (c.new.ensures ∙ c.deref.ensures.value) c.in-Err-receive_in.ensures.received in
    meets_halted s t c.args.answer.now c.requires.answer c.requires.live c.requires.two c.in-Ok.settled.0 out after c.requires.sound.0 settled c.in-Err-receive_in.error other told
