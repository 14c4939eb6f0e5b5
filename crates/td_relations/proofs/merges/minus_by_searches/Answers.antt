use Rattle.std.proofs.Common.{sym, subst}
use Rattle.td_values.specs.Rows.{AreRows}
use Rattle.td_relations.specs.Merges.{first_alone}
use Rattle.std.proofs.lemmas.Result.{IfOk-weaker}
use Rattle.td_relations.proofs.Merging.{KeptOf, lacking_is_merge, of_merge, rows_of_merge}
use Rattle.td_relations.proofs.merges.minus_by_searches.Goals as goal

pub with_tuples-requires : goal.with_tuples-requires
with_tuples-requires c =
    let a = c.args.a.now in
    let b = c.args.b.now in
    let ys = subst (λ h. AreRows h b.tuples) (sym c.requires) c.rows_fit-2.ensures in
    rows_of_merge first_alone a.heading a.tuples b.tuples _ (lacking_is_merge a.tuples b.tuples _ c.rows_fit.ensures.ascending c.in_ok-tuples.ensures) c.rows_fit.ensures ys

pub returns : goal.returns
returns c =
    let a = c.args.a.now in
    let b = c.args.b.now in
    IfOk-weaker c.with_tuples.result _ _
    (λ r is. subst (KeptOf first_alone a b a.heading) (sym is) (of_merge first_alone a b _ (lacking_is_merge a.tuples b.tuples _ c.rows_fit.ensures.ascending c.in_ok-tuples.ensures)))
    c.with_tuples.ensures
