use Rattle.std.proofs.Common.{sym, ◌∙◌, ap, Ok}
use Rattle.std.proofs.lemmas.Result.{err_from_is_err_and}
use Rattle.td_values.specs.Data.{Datum}
use Rattle.td_algebra.specs.Nested.{relation_value}
use Rattle.td_meaning.specs.Seen.{relvars_at}
use Rattle.td_meaning.specs.Selections.{selection}
use Rattle.td_eval.specs.ForProofs.Environments.{all_known}
use Rattle.td_eval.proofs.ByKey.{error_kept, where_is}
use Rattle.td_eval.proofs.Known.{base_stays}
use Rattle.td_eval.proofs.by_key.value_by_key.Goals as goal

pub returns-in_err-relation : goal.returns-in_err-relation
returns-in_err-relation g c = λ names.
    let x = c.args.expression.now in
    let known = relvars_at (all_known x (g.L.Lookup.relvars c.args.lookup.now)) in
    let place = c.in-Some.place in
    let condition = c.in-Some.condition.now in
    let stays = base_stays x (g.L.Lookup.relvars c.args.lookup.now) place c.in-Some.ensures.1 in
    let is = where_is known (selection x.selectors) names place x.tree condition c.in-Some.ensures.0 in
    let p = err_from_is_err_and c.from_residual.result c.from_residual.ensures.1 in
    rw (p.1, p.2) (error_kept relation_value (λ (d : Datum). d) c.in_err-relation.field-0.0 _ _ is (c.in_err-relation.ensures known (selection x.selectors) names stays))

pub returns-in-Some-2 : goal.returns-in-Some-2
returns-in-Some-2 g c = λ names.
    let x = c.args.expression.now in
    let known = relvars_at (all_known x (g.L.Lookup.relvars c.args.lookup.now)) in
    let place = c.in-Some.place in
    let condition = c.in-Some.condition.now in
    let stays = base_stays x (g.L.Lookup.relvars c.args.lookup.now) place c.in-Some.ensures.1 in
    let is = where_is known (selection x.selectors) names place x.tree condition c.in-Some.ensures.0 in
    sym is ∙ (rw c.in-Some-2.is at c.in_ok-relation.ensures) known (selection x.selectors) names stays ∙ ap Ok (sym c.relation_value.ensures)
