use Rattle.std.proofs.Common.{Ok, Err, Some, subst}
use Rattle.td_values.specs.Data.{no_attrs}
use Rattle.td_algebra.specs.Raising.{and_then}
use Rattle.td_headings.specs.Catalogues.{CatalogueData}
use Rattle.td_operators.specs.Values.{rows_of}
use Rattle.td_semantics.specs.Databases.{stored_relvars}
use Rattle.td_semantics.specs.Trees.{tree_means}
use Rattle.td_eval.specs.Changed.{TellsChanged}
use Rattle.td_relvars.proofs.Kept.{base_has}
use Rattle.td_assign.proofs.Turning.{is_real, told_exchange, told_raised}
use Rattle.td_assign.proofs.sources.change_delta.Goals as goal

pub changed-requires-clause-relation : goal.changed-requires-clause-relation
changed-requires-clause-relation c =
    let d = c.args.database.now in
    base_has d c.catalogue-catalogue.ensures.database c.args.assignment.now.target (is_real d c.args.assignment.now c.requires)

pub returns-in-Ok-Some : goal.returns-in-Ok-Some
returns-in-Ok-Some c =
    let d = c.args.database.now in
    let a = c.args.assignment.now in
    let x = c.in-Ok-Some.delta in
    let told = rw c.in-Ok-Some.field-0-is at c.in-Ok-Some.ensures in
    told_exchange d a x c.catalogue-catalogue.ensures.database c.requires c.rows_fit.ensures.there c.rows_fit.ensures.new
    (subst (λ (z : CatalogueData). TellsChanged (stored_relvars d.stored a.target) (and_then (tree_means z (stored_relvars d.stored) a.source.tree no_attrs) rows_of) (Ok (Some x))) c.catalogue-catalogue.ensures.same told)

pub returns-in-Err : goal.returns-in-Err
returns-in-Err c =
    let d = c.args.database.now in
    let a = c.args.assignment.now in
    told_raised d a c.in-Err.failure
    (subst (λ (z : CatalogueData). TellsChanged (stored_relvars d.stored a.target) (and_then (tree_means z (stored_relvars d.stored) a.source.tree no_attrs) rows_of) (Err c.in-Err.failure)) c.catalogue-catalogue.ensures.same c.in-Err.ensures)
