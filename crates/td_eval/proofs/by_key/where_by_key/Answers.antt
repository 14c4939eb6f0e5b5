use Rattle.std.proofs.Common.{◌≡◌, Ok, sym, ap, ◌∙◌, subst}
use Rattle.std.proofs.lemmas.Result.{err_from_is_err_and}
use Rattle.td_algebra.specs.Nested.{relation_value}
use Rattle.td_meaning.specs.Mean.{Names, Relvars, Selection, mean, mean_relvar, mean_where, truth_at}
use Rattle.td_eval.specs.ForProofs.ByKey.{GivesKey, SaysIfAny, all_columns, all_values}
use Rattle.td_eval.proofs.ByKey.{decided_there, error_told, found_of, part_says, same_restricted, some_of}
use Rattle.td_eval.proofs.by_key.where_by_key.Given.{Over}
use Rattle.td_eval.proofs.by_key.where_by_key.Goals.{After-with_values}
use Rattle.td_eval.proofs.by_key.where_by_key.Goals as goal

pub returns-in_err-part : goal.returns-in_err-part
returns-in_err-part g c = λ r s names is.
    let m = g.L.Lookup.relvars c.args.lookup.now c.args.place in
    let o = g.L.Lookup.first_keys c.args.lookup.now c.args.place in
    let p = err_from_is_err_and c.from_residual-in_err-part.result c.from_residual-in_err-part.ensures.1 in
    rw (p.1, p.2) (error_told r s names c.args.place c.args.condition.now m o c.in-Some-2.sought c.in_err-part.field-0.0 is c.in_err-part.ensures)

-- what the part has of the relvar
says : (g : Over) (c : After-with_values g) (r : Relvars) (s : Selection) (names : Names) → r c.args.place ≡ g.L.Lookup.relvars c.args.lookup.now c.args.place
    → SaysIfAny relation_value (some_of c.with_values.result) (mean_where (mean_relvar r c.args.place) (mean r s c.args.condition.now) names)
says g c r s names is =
    let condition = c.args.condition.now in
    let m = g.L.Lookup.relvars c.args.lookup.now c.args.place in
    let o = g.L.Lookup.first_keys c.args.lookup.now c.args.place in
    let fs = c.in-Some.values.items in
    let key = c.in-Some-first_key.key.now in
    let sought = c.in-Some-2.sought in
    let part = c.in-Some-3.part in
    let conjunction = rw c.in-Some.is at c.in_ok-values.ensures in
    let held = subst (λ vs. GivesKey key vs sought) c.deref.ensures.value (rw c.in-Some-2.is at c.in_ok-sought.ensures) in
    let (rows, has, those) = found_of m o key sought part (rw c.in-Some-3.is at c.in_ok-part.ensures) c.in-Some-first_key.ensures in
    let columns = ap (all_columns fs) (sym c.heading.ensures) ∙ ap (λ vs. all_columns vs c.heading.result.now) (sym c.deref-2.ensures.value) ∙ sym c.has_names.ensures ∙ c.if-has_names.true in
    let decided = decided_there r s names condition fs conjunction rows key sought part those columns held in
    part_says r s names c.args.place condition m rows part is has (same_restricted r s names condition fs conjunction rows key sought part those columns held) c.with_values.result
    (c.with_values.ensures (truth_at (mean r s condition) names) (λ t there. decided t there ∙ ap (λ vs. Ok (all_values vs t)) (sym c.deref-then-has_names.ensures.value)))

pub returns-in_err-with_values : goal.returns-in_err-with_values
returns-in_err-with_values g c = λ r s names is.
    let h = says g (goal.at.returns-in_err-with_values g c).After-with_values r s names is in
    let p = err_from_is_err_and c.from_residual-in_err-with_values.result c.from_residual-in_err-with_values.ensures.1 in
    rw (p.1, p.2) (rw c.in_err-with_values.was at h)

pub returns-then-has_names : goal.returns-then-has_names
returns-then-has_names g c = λ r s names is.
    let h = says g (goal.at.returns-then-has_names g c).After-with_values r s names is in
    rw c.in_ok-with_values.was at h
