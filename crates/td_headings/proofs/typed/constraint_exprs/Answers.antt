use Rattle.std.proofs.Common.{◌≡◌, ◌+◌, List, ◌∷◌, [], Option, None, MatchOption, length, ap, sym, subst, ◌∙◌}
use Rattle.std.proofs.lemmas.List.{length-append}
use Rattle.td_typed_trees.specs.declared.expression.Expression.{Expression}
use Rattle.td_headings.specs.Expressions.{IsConstraint, constraint_at}
use Rattle.td_headings.specs.ForProofs.KeptConstraints.{AreKept}
use Rattle.td_headings.proofs.KeptConstraints.{none_kept, one_kept}
use Rattle.td_headings.proofs.typed.constraint_exprs.Goals as goal

pub loop-place-init : goal.loop-place-init
loop-place-init c = (subst (AreKept c.args.catalogue.now) (sym c.in_ok-exprs.ensures.items) (none_kept _), ap length c.in_ok-exprs.ensures.items)

pub loop-place-preserved : goal.loop-place-preserved
loop-place-preserved c =
    let k = c.args.catalogue.now in
    let xs = c.loop-place.exprs.items in
    let o = c.in_ok-make_constraint_expr.field-0 in
    let more = c.in_ok-push.ensures.items in
    let told = subst (λ n. MatchOption o (constraint_at k n ≡ None) (IsConstraint k (constraint_at k n))) (sym c.loop-place.invariant.1) c.in_ok-make_constraint_expr.ensures in
    (subst (AreKept k) (sym {A = List (Option Expression)} more) (one_kept k xs o c.loop-place.invariant.0 told), ap length more ∙ length-append xs (o ∷ []) ∙ ap (λ n. n + 1) c.loop-place.invariant.1)
