use Rattle.std.proofs.Common.{[], ◌∷◌, IfOk, IfSome, sym, ◌∙◌, subst}
use Rattle.td_typed_trees.specs.declared.tree.Typed.TheVariants as typed
use Rattle.td_eval.specs.ForProofs.ByKey.{IsConjunction}
use Rattle.td_eval.proofs.by_key.equality.Goals as goal

pub returns-in-Binary : goal.returns-in-Binary
returns-in-Binary c =
    let x = c.in-Binary in
    let is = x.is ∙ (λ i. typed.Binary (c.is_equals.ensures c.if-is_equals.true i) (sym c.get.ensures i) (sym c.get-in-Binary.ensures i)) in
    subst (λ e. IfOk c.attribute_and_literal.result (λ o. IfSome o (λ f. IsConjunction e (f ∷ [])))) (sym is) c.attribute_and_literal.ensures
