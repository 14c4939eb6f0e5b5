use Rattle.std.proofs.Common.{IfOk, slice_get, sym, ap, subst, ◌∙◌}
use Rattle.td_values.specs.Data.{no_attrs}
use Rattle.td_schema.specs.Schemas.{SchemaData}
use Rattle.td_algebra.specs.Raising.{and_then}
use Rattle.td_headings.specs.Catalogues.{CatalogueData}
use Rattle.td_operators.specs.Values.{rows_of}
use Rattle.td_type_soundness.specs.Meanings.{IsRelationOver}
use Rattle.td_semantics.specs.Raises.{Tells}
use Rattle.td_semantics.specs.Trees.{AreBases, tree_means}
use Rattle.td_semantics.specs.Databases.{stored_relvars}
use Rattle.td_semantics.specs.Given.{seen}
use Rattle.td_assign.specs.ForProofs.Lists.{given_to}
use Rattle.td_assign.proofs.Assigning.{if_belongs, is_there, kind_is}
use Rattle.td_assign.proofs.Replacing.{seen_bases}
use Rattle.td_assign.proofs.sources.source.Goals as goal

pub relation-requires-clause-kind : goal.relation-requires-clause-kind
relation-requires-clause-kind c =
    let s = c.args.database.now.catalogue in
    let x = c.args.assignment.now in
    let known = c.schema.ensures.schema ∙ ap (λ (z : CatalogueData). z.schema) c.catalogue-catalogue.ensures.same in
    let at = ap (λ (z : SchemaData). slice_get z.relvars x.target) (sym known) ∙ c.in-Some.ensures in
    kind_is s x c.requires.assigned (record { name = c.in-Some.field-0-0.now; value = c.in-Some.heading.now }) at

pub relation-requires-clause-bases : goal.relation-requires-clause-bases
relation-requires-clause-bases c =
    let d = c.args.database.now in
    let cs = c.args.changes.now in
    let n = c.args.assignment.now.target in
    let k = c.catalogue-catalogue.ensures in
    subst (λ (z : CatalogueData). AreBases z (seen (given_to cs) n (stored_relvars d.stored))) (sym k.same) (seen_bases d.catalogue cs c.requires.given d.stored k.database n)

pub unreachable-requires : goal.unreachable-requires
unreachable-requires c =
    let s = c.args.database.now.catalogue in
    let x = c.args.assignment.now in
    let known = c.schema.ensures.schema ∙ ap (λ (z : CatalogueData). z.schema) c.catalogue-catalogue.ensures.same in
    is_there s x c.requires.assigned (ap (λ (z : SchemaData). slice_get z.relvars x.target) (sym known) ∙ c.in-None.ensures {u = tt})

pub returns-clause-told : goal.returns-clause-told
returns-clause-told c =
    let x = c.args.assignment.now in
    subst (λ (z : CatalogueData). Tells c.relation.result (and_then (tree_means z (seen (given_to c.args.changes.now) x.target (stored_relvars c.args.database.now.stored)) x.source.tree no_attrs) rows_of)) c.catalogue-catalogue.ensures.same c.relation.ensures.told

pub returns-clause-typed : goal.returns-clause-typed
returns-clause-typed c =
    let s = c.args.database.now.catalogue in
    let x = c.args.assignment.now in
    let k = c.catalogue-catalogue.ensures in
    let h = c.in-Some.heading.now in
    let known = c.schema.ensures.schema ∙ ap (λ (z : CatalogueData). z.schema) k.same in
    let at = ap (λ (z : SchemaData). slice_get z.relvars x.target) (sym known) ∙ c.in-Some.ensures in
    let is = subst (λ (z : CatalogueData). IfOk c.relation.result (IsRelationOver z.schema h)) k.same c.relation.ensures.typed in
    if_belongs s x c.requires.assigned (record { name = c.in-Some.field-0-0.now; value = h }) at c.relation.result is
