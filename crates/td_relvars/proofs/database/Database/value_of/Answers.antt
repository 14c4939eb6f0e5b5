use Rattle.std.proofs.Common.{slice_get, sym, ap, ◌∙◌}
use Rattle.td_schema.specs.Schemas.{SchemaData, relvar_named}
use Rattle.td_headings.specs.Catalogues.{CatalogueData}
use Rattle.td_headings.specs.Reached.{is_base}
use Rattle.td_relvars.proofs.Asked.{is_stored, tells}
use Rattle.td_relvars.proofs.database.Database.value_of.Goals as goal

pub base_value-requires : goal.base_value-requires
base_value-requires c =
    let d = c.args.self.now in
    let x = c.args.name.now in
    let n = c.in-Some.place in
    let k = c.catalogue-catalogue.ensures in
    let known = c.schema.ensures.schema ∙ ap (λ (z : CatalogueData). z.schema) k.same in
    let at = ap (λ (z : SchemaData). relvar_named z x) (sym known) ∙ c.in-Some.ensures in
    let real = ap (λ (z : CatalogueData). is_base (slice_get z.origins n)) (sym k.same) ∙ sym c.is_base.ensures ∙ c.if-is_base.true in
    is_stored d x n c.in-Some.heading.now k.database at real

pub returns-then-is_base : goal.returns-then-is_base
returns-then-is_base c =
    let known = c.schema.ensures.schema ∙ ap (λ (z : CatalogueData). z.schema) c.catalogue-catalogue.ensures.same in
    let at = ap (λ (z : SchemaData). relvar_named z c.args.name.now) (sym known) ∙ c.in-Some.ensures in
    tells c.args.self.now c.args.name.now c.in-Some.place c.in-Some.heading.now c.base_value.result at c.base_value.ensures

pub returns-else-is_base : goal.returns-else-is_base
returns-else-is_base c =
    let known = c.schema.ensures.schema ∙ ap (λ (z : CatalogueData). z.schema) c.catalogue-catalogue.ensures.same in
    let at = ap (λ (z : SchemaData). relvar_named z c.args.name.now) (sym known) ∙ c.in-Some.ensures in
    tells c.args.self.now c.args.name.now c.in-Some.place c.in-Some.heading.now c.evaluated.result at c.evaluated.ensures
