use Rattle.std.proofs.Common.{List, ℕ, ap, sym, ◌∙◌}
use Rattle.std.specs.List.{list_any}
use Rattle.td_typed_trees.specs.declared.expression.BaseUnder.{BaseUnder}
use Rattle.td_typed_trees.specs.declared.expression.Expression.{Expression}
use Rattle.td_integrity.specs.ForProofs.Changed.{is_changed}
use Rattle.td_integrity.proofs.Gaining.{any_of_places}
use Rattle.td_integrity.proofs.ways.is_touched.Goals as goal

pub returns : goal.returns
returns c =
    let p = is_changed c.args.changes.now in
    let same = c.as_slice.ensures ∙ ap (λ (x : Expression). x.bases) c.get.ensures.same in
    c.is_any_changed.ensures ∙ ap (list_any (λ (b : BaseUnder). p b.place)) same ∙ sym (any_of_places p c.args.expr.now.bases)
