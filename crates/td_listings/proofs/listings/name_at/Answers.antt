use Rattle.std.proofs.Common.{slice_get, sym, ap, ◌∙◌}
use Rattle.td_schema.specs.Schemas.{SchemaData}
use Rattle.td_listings.proofs.Relvars.{at_place}
use Rattle.td_listings.proofs.listings.name_at.Goals as goal

pub returns : goal.returns
returns c =
    at_place c.args.catalogue.now c.args.place (record { name = c.in-Some.name.now; value = c.in-Some.field-0-1.now }) c.schema.ensures.defined
    (ap (λ (s : SchemaData). slice_get s.relvars c.args.place) (sym c.schema.ensures.schema) ∙ c.in-Some.ensures)
