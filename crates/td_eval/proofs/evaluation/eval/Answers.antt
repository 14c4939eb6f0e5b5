use Rattle.std.proofs.Common.{◌≡◌, Ok, Err, refl, ap, ◌∙◌, subst}
use Rattle.std.proofs.lemmas.Result.{err_from_is_err_and}
use Rattle.td_values.specs.Data.{Datum}
use Rattle.td_typed_trees.specs.declared.expression.Expression.{Expression}
use Rattle.td_meaning.specs.Mean.{mean, within}
use Rattle.td_meaning.specs.Seen.{relvars_at}
use Rattle.td_meaning.specs.Selections.{selection}
use Rattle.td_semantics.specs.Meanings.{no_names}
use Rattle.td_eval.specs.ForProofs.ByKey.{SaysIfAny}
use Rattle.td_eval.specs.ForProofs.Environments.{all_known}
use Rattle.td_eval.proofs.ByKey.{error_answers}
use Rattle.td_eval.proofs.Settled.{whole_means}
use Rattle.td_eval.proofs.evaluation.eval.Goals as goal

pub returns-in_err-value : goal.returns-in_err-value
returns-in_err-value g c =
    let x = c.args.expr.now in
    let r = g.L.Lookup.relvars c.args.lookup.now in
    let t = c.args.tuple.now in
    let f = c.in_err-value.field-0.0 in
    let says = subst (λ (y : Expression). SaysIfAny (λ (d : Datum). d) (Err f) (mean (relvars_at (all_known y r)) (selection y.selectors) y.tree (within t no_names))) c.get.ensures.same (c.in_err-value.ensures (within t no_names)) in
    let p = err_from_is_err_and c.from_residual.result c.from_residual.ensures.1 in
    rw (p.1, p.2) (whole_means x r c.get.ensures.typed x.tree refl t (Err f) (error_answers f _ says))

pub returns-in-Some : goal.returns-in-Some
returns-in-Some g c =
    let x = c.args.expr.now in
    let r = g.L.Lookup.relvars c.args.lookup.now in
    let t = c.args.tuple.now in
    let d = c.in-Some.value in
    let says = (rw c.in-Some.is at c.in_ok-value.ensures) (within t no_names) in
    whole_means x r c.get.ensures.typed x.tree refl t (Ok d)
    (subst (λ (y : Expression). mean (relvars_at (all_known y r)) (selection y.selectors) y.tree (within t no_names) ≡ Ok d) c.get.ensures.same says)

pub returns : goal.returns
returns g c =
    whole_means c.args.expr.now (g.L.Lookup.relvars c.args.lookup.now) c.get.ensures.typed c.get-3.result.now
    (c.get-3.ensures ∙ ap (λ (y : Expression). y.tree) c.get-2.ensures.same) c.args.tuple.now c.value_of_part.result c.value_of_part.ensures
