use Rattle.std.proofs.Common.{List, ℕ, ◌++◌, map, ap, sym, subst, ◌∙◌}
use Rattle.std.specs.List.{Contains}
use Rattle.std.proofs.lemmas.List.{map-append}
use Rattle.td_headings.specs.Reached.{AreThose}
use Rattle.td_headings.specs.declared.statement.TypedAssignment.{TypedAssignment}
use Rattle.td_headings.proofs.statement.targets.Goals as goal

pub returns : goal.returns
returns c =
    let target : TypedAssignment → ℕ = λ x. x.target in
    let made = c.lists_of.result.0.now in
    let otherwise = c.lists_of.result.1.now in
    let first = c.in_ok-add_targets.ensures ∙ ap (λ (ns : List ℕ). ns ++ map target made) c.in_ok-places.ensures.items in
    let all = c.in_ok-add_targets-2.ensures ∙ ap (λ (ns : List ℕ). ns ++ map target otherwise) first ∙ sym (map-append target made otherwise) ∙ ap (map target) (sym c.lists_of.ensures) in
    subst (λ ps. AreThose (Contains ps) c.in_order.result.items) all c.in_order.ensures
