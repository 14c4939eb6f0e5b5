use Rattle.std.proofs.Common.{◌≡◌, true, slice_get, sym, subst}
use Rattle.td_values.specs.Data.{no_attrs}
use Rattle.td_algebra.specs.Raising.{and_then}
use Rattle.td_headings.specs.Catalogues.{CatalogueData}
use Rattle.td_headings.specs.Reached.{is_base}
use Rattle.td_operators.specs.Values.{rows_of}
use Rattle.td_semantics.specs.Databases.{stored_relvars}
use Rattle.td_semantics.specs.Trees.{AreBases, tree_means}
use Rattle.td_eval.specs.Added.{TellsAdded}
use Rattle.td_relvars.proofs.Kept.{base_has}
use Rattle.td_relvars.proofs.Stores.{bases}
use Rattle.td_assign.proofs.Turning.{is_real, told_addition}
use Rattle.td_assign.proofs.sources.addition.Goals as goal

pub added_tuples-requires-clause-bases : goal.added_tuples-requires-clause-bases
added_tuples-requires-clause-bases c =
    let d = c.args.database.now in
    let k = c.catalogue-catalogue.ensures in
    subst (λ (z : CatalogueData). AreBases z (stored_relvars d.stored)) (sym k.same) (bases d k.database)

pub added_tuples-requires-clause-base : goal.added_tuples-requires-clause-base
added_tuples-requires-clause-base c =
    let d = c.args.database.now in
    let n = c.args.assignment.now.target in
    subst (λ (z : CatalogueData). is_base (slice_get z.origins n) ≡ true) (sym c.catalogue-catalogue.ensures.same) (is_real d c.args.assignment.now c.requires)

pub added_tuples-requires-clause-relation : goal.added_tuples-requires-clause-relation
added_tuples-requires-clause-relation c =
    let d = c.args.database.now in
    base_has d c.catalogue-catalogue.ensures.database c.args.assignment.now.target (is_real d c.args.assignment.now c.requires)

pub returns : goal.returns
returns c =
    let d = c.args.database.now in
    let a = c.args.assignment.now in
    told_addition d a c.added_tuples.result
    (subst (λ (z : CatalogueData). TellsAdded (stored_relvars d.stored a.target) (and_then (tree_means z (stored_relvars d.stored) a.source.tree no_attrs) rows_of) c.added_tuples.result) c.catalogue-catalogue.ensures.same c.added_tuples.ensures)
