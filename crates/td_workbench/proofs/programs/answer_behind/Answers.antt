use Rattle.std.proofs.Common.{List, refl, ap}
use Rattle.td_workbench.specs.ForProofs.Opening.{AreThen}
use Rattle.td_workbench.specs.Runs.{AnswersLine, over}
use Rattle.td_workbench.proofs.Starting.{behind_ran}
use Rattle.td_workbench.proofs.programs.answer_behind.Goals as goal

pub returns : goal.returns
returns g c =
    let b = over g.R.Replica.seen g.R.Replica.failed g.R.Replica.journaled g.L.Links.serves g.L.Links.calls in
    behind_ran (AnswersLine b c.args.opened.catalogue) (AreThen c.serve.new.links) c.args.is_last (c.args.opened.sites.items, c.args.links.now) (c.deref_mut.result.now, c.args.links.now) (_, c.serve.new.links) c.args.reads.now _ _ _ _ c.serve.result
    c.if-is_last.false (ap (λ (l : List _). (l, c.args.links.now)) c.deref_mut.ensures.value) refl c.serve.ensures
