use Rattle.std.proofs.Common.{◌↔◌, ◌++◌, [], ap, subst, ◌∙◌}
use Rattle.std.specs.List.{Contains}
use Rattle.std.specs.Prelude.{slice_index_or}
use Rattle.std.proofs.lemmas.Result.{IfOk-weaker}
use Rattle.td_graph.specs.Links.{ReachedFrom}
use Rattle.td_algebra.proofs.Reaching.{beyond}
use Rattle.td_algebra.proofs.closure.reachable_beyond.Goals as goal

pub returns-clause-reached : goal.returns-clause-reached
returns-clause-reached c =
    let links = c.args.links.now in
    let next = c.deref.ensures.value ∙ c.in_ok-add_next.ensures ∙ ap (λ ns. ns ++ slice_index_or links c.args.place []) c.new-next.ensures.items in
    IfOk-weaker c.reached_by.result _ _
    (λ v has w.
    let known = subst (λ ns. Contains v.items w ↔ ReachedFrom links ns w) next (has w) in
    let by = beyond links c.args.place c.requires.within w in
    ((λ h. by.0 (known.0 h)), (λ h. known.1 (by.1 h))))
    c.reached_by.ensures.reached
