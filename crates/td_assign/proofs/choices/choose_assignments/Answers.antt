use Rattle.std.proofs.Common.{◌≡◌, ◌∙◌, Ok, List, true, false, sym, ap, subst}
use Rattle.td_values.specs.Data.{no_attrs}
use Rattle.td_algebra.specs.Raising.{and_then}
use Rattle.td_headings.specs.Catalogues.{CatalogueData}
use Rattle.td_headings.specs.declared.statement.TypedAssignment.{TypedAssignment}
use Rattle.td_headings.specs.declared.statement.TypedStatement.{TypedStatement}
use Rattle.td_operators.specs.Values.{truth_of}
use Rattle.td_semantics.specs.Databases.{stored_relvars}
use Rattle.td_semantics.specs.Trees.{tree_means}
use Rattle.td_assign.specs.ForProofs.Given.{AreAssigned, Stands}
use Rattle.td_assign.specs.ForProofs.Prepared.{chosen_by}
use Rattle.td_assign.proofs.Preparing.{all_alone, first_of, second_of, where_err, where_ok}
use Rattle.td_assign.proofs.choices.choose_assignments.Goals as goal

pub returns-in-Assignment-clause-assigned : goal.returns-in-Assignment-clause-assigned
returns-in-Assignment-clause-assigned c =
    subst (AreAssigned c.args.database.now.catalogue) (sym c.as_slice.ensures) (all_alone c.args.database.now.catalogue c.args.statement.now c.requires c.in-Assignment.all c.in-Assignment.is)

pub returns-in-Ok-true-clause-told : goal.returns-in-Ok-true-clause-told
returns-in-Ok-true-clause-told c =
    let d = c.args.database.now in
    let u = c.in-Conditional.condition in
    let h = subst (λ (z : CatalogueData). and_then (tree_means z (stored_relvars d.stored) u.tree no_attrs) truth_of ≡ Ok true) c.catalogue.ensures.same (rw c.in-Ok-true.field-0-test at c.in-Ok-true.ensures) in
    ap (chosen_by d) c.in-Conditional.is ∙ where_ok (and_then (tree_means d.catalogue (stored_relvars d.stored) u.tree no_attrs) truth_of) true c.in-Conditional.made c.in-Conditional.otherwise h ∙ ap (λ (xs : List TypedAssignment). Ok xs) (sym c.as_slice-in-Ok-true.ensures)

pub returns-in-Ok-true-clause-assigned : goal.returns-in-Ok-true-clause-assigned
returns-in-Ok-true-clause-assigned c =
    subst (AreAssigned c.args.database.now.catalogue) (sym c.as_slice-in-Ok-true.ensures) (first_of c.args.database.now.catalogue c.args.statement.now c.requires c.in-Conditional.condition c.in-Conditional.made c.in-Conditional.otherwise c.in-Conditional.is)

pub returns-in-Ok-false-clause-told : goal.returns-in-Ok-false-clause-told
returns-in-Ok-false-clause-told c =
    let d = c.args.database.now in
    let u = c.in-Conditional.condition in
    let h = subst (λ (z : CatalogueData). and_then (tree_means z (stored_relvars d.stored) u.tree no_attrs) truth_of ≡ Ok false) c.catalogue.ensures.same (rw c.in-Ok-false.field-0-test at c.in-Ok-false.ensures) in
    ap (chosen_by d) c.in-Conditional.is ∙ where_ok (and_then (tree_means d.catalogue (stored_relvars d.stored) u.tree no_attrs) truth_of) false c.in-Conditional.made c.in-Conditional.otherwise h ∙ ap (λ (xs : List TypedAssignment). Ok xs) (sym c.as_slice-in-Ok-false.ensures)

pub returns-in-Ok-false-clause-assigned : goal.returns-in-Ok-false-clause-assigned
returns-in-Ok-false-clause-assigned c =
    subst (AreAssigned c.args.database.now.catalogue) (sym c.as_slice-in-Ok-false.ensures) (second_of c.args.database.now.catalogue c.args.statement.now c.requires c.in-Conditional.condition c.in-Conditional.made c.in-Conditional.otherwise c.in-Conditional.is)

pub returns-in-Err-clause-told : goal.returns-in-Err-clause-told
returns-in-Err-clause-told c =
    let d = c.args.database.now in
    let u = c.in-Conditional.condition in
    let f = c.in-Err.failure in
    let h = subst (λ (z : CatalogueData). Stands f (and_then (tree_means z (stored_relvars d.stored) u.tree no_attrs) truth_of)) c.catalogue.ensures.same c.in-Err.ensures in
    subst (λ (x : TypedStatement). Stands f (chosen_by d x)) (sym c.in-Conditional.is) (where_err (and_then (tree_means d.catalogue (stored_relvars d.stored) u.tree no_attrs) truth_of) f c.in-Conditional.made c.in-Conditional.otherwise h)
