use Rattle.std.proofs.Common.{Ok, length, ◌==◌, sym, ap, ◌∙◌, subst}
use Rattle.td_values.specs.Data.{boolean}
use Rattle.td_values.specs.Rows.{AreRows, RowsData}
use Rattle.td_tuples.specs.Parts.{columns_in}
use Rattle.td_algebra.specs.Functions.{project_of}
use Rattle.td_operators.specs.Operators.{is_subset, are_equal_headings}
use Rattle.td_operators.proofs.WithinParts.{unlike_told, within_told}
use Rattle.td_operators.proofs.inclusions.is_within.Goals as goal

pub returns-then-not-alike : goal.returns-then-not-alike
returns-then-not-alike g c =
    let r = c.args.r.now in
    let s = c.args.whole.now in
    let names = c.args.names.now in
    let mine = c.heading.ensures ∙ ap (λ (w : RowsData). w.heading) c.get.ensures in
    let whole = c.heading-2.ensures ∙ ap (λ (w : RowsData). w.heading) c.get-2.ensures in
    unlike_told names r s (boolean (is_subset r (project_of names s)))
    ((λ i. are_equal_headings (sym mine i) (columns_in names (sym whole i))) ∙ sym c.in_ok-alike.ensures.test ∙ c.if-not-alike.true)

pub returns : goal.returns
returns g c =
    let r = c.args.r.now in
    let s = c.args.whole.now in
    let names = c.args.names.now in
    let mine = c.heading.ensures ∙ ap (λ (w : RowsData). w.heading) c.get.ensures in
    let whole = c.heading-2.ensures ∙ ap (λ (w : RowsData). w.heading) c.get-2.ensures in
    let alike = c.in_ok-alike.ensures.same c.if-not-alike.false in
    within_told names r s (subst (λ (w : RowsData). AreRows w.heading w.tuples) c.get-3.ensures c.rows_fit.ensures) (subst (λ (w : RowsData). AreRows w.heading w.tuples) c.get-4.ensures c.rows_fit-2.ensures)
    (sym mine ∙ alike ∙ ap (columns_in names) whole)
    c.in_ok-others.others c.is_empty.result
    ((λ i. are_equal_headings (sym mine i) (columns_in names (sym whole i))) ∙ sym c.in_ok-alike.ensures.test ∙ c.if-not-alike.false)
    c.in_ok-others.ensures
    (c.is_empty.ensures ∙ ap (λ ts. length ts == 0) c.tuples.ensures.all)
    ∙ ap Ok (sym c.truth_value.ensures)
