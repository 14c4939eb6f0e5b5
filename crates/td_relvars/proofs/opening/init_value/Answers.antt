use Rattle.std.proofs.Common.{Result, Ok, Err, IfOk, sym, ap, ◌∙◌, subst, slice_get}
use Rattle.td_values.specs.Data.{no_attrs}
use Rattle.td_values.specs.Rows.{RowsData}
use Rattle.td_schema.specs.Schemas.{SchemaData}
use Rattle.td_algebra.specs.Raising.{and_then}
use Rattle.td_headings.specs.Catalogues.{CatalogueData}
use Rattle.td_operators.specs.Values.{rows_of}
use Rattle.td_type_soundness.specs.Meanings.{IsRelationOver}
use Rattle.td_semantics.specs.Raises.{Tells}
use Rattle.td_semantics.specs.Trees.{IsIn, tree_means}
use Rattle.td_semantics.specs.Databases.{Belongs, stored_relvars}
use Rattle.td_relvars.proofs.Inits.{init, init_in, belongs, tells_init}
use Rattle.td_relvars.proofs.opening.init_value.Goals as goal

pub relation-requires-clause-expr : goal.relation-requires-clause-expr
relation-requires-clause-expr c =
    let s = c.args.database.now.catalogue in
    let x = c.args.init.now in
    let i = init s c.args.place x c.requires in
    let k = c.catalogue-catalogue.ensures in
    subst (λ (z : CatalogueData). IsIn z x) (sym k.same) (init_in s c.args.place x i k.database.defined)

pub returns-clause-told : goal.returns-clause-told
returns-clause-told c =
    let d = c.args.database.now in
    let x = c.args.init.now in
    let i = init d.catalogue c.args.place x c.requires in
    let told = subst (λ (z : CatalogueData). Tells c.relation.result (and_then (tree_means z (stored_relvars d.stored) x.tree no_attrs) rows_of)) c.catalogue-catalogue.ensures.same c.relation.ensures.told in
    tells_init d.catalogue c.args.place x i d.stored c.relation.result told

each_ok : {A E : Type 0} {P Q : A → Type 0} (a : Result A E) → ((x : A) → P x → Q x) → IfOk a P → IfOk a Q
each_ok (Ok x) f p = f x p
each_ok (Err e) f p = tt

pub returns-clause-belongs : goal.returns-clause-belongs
returns-clause-belongs c =
    let s = c.args.database.now.catalogue in
    let n = c.args.place in
    let x = c.args.init.now in
    let h = c.in-Some.heading.now in
    let i = init s n x c.requires in
    let k = c.catalogue-catalogue.ensures in
    let known = c.schema.ensures.schema ∙ ap (λ (z : CatalogueData). z.schema) k.same in
    let at = ap (λ (z : SchemaData). slice_get z.relvars n) (sym known) ∙ c.in-Some.ensures in
    each_ok c.relation.result (λ r typed. belongs s n x i (record { name = c.in-Some.field-0-0.now; value = h }) at r (subst (λ (z : CatalogueData). IsRelationOver z.schema h r) k.same typed)) c.relation.ensures.typed
