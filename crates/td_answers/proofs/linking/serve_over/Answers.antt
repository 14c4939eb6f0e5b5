use Rattle.std.proofs.Common.{ℕ, List, Option, inr, subst}
use Rattle.std.specs.Io.KnownBytes.{Keeps}
use Rattle.td_meeting.specs.Steps.{link_of}
use Rattle.td_answers.proofs.linking.serve_over.Goals as goal

pub returns-in-Ok-clause-served : goal.returns-in-Ok-clause-served
returns-in-Ok-clause-served g c =
    let held = g.met.C.Channel.same_held in
    let kept =
    subst (λ (h : Option (List ℕ)). Keeps h (g.C.Sink.held c.finish.new.source)) (held c.answer.new.link)
    (subst (λ (h : Option (List ℕ)). Keeps (g.C.Source.beside c.answer.new.link) h) (held c.finish.new.source) c.finish.ensures.beside) in
    inr (link_of g.C.Source g.C.Sink c.answer.new.link, c.in-Ok.ensures, (c.finish.ensures.finished, kept))
