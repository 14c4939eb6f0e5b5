use Rattle.std.proofs.Common.{slice_get, sym, ap, refl, ◌∙◌}
use Rattle.td_schema.specs.Schemas.{SchemaData}
use Rattle.td_listings.proofs.Found.{other, this}
use Rattle.td_listings.proofs.table.relvar_of.Goals as goal

pub returns-then-is_named : goal.returns-then-is_named
returns-then-is_named c =
    this c.args.catalogue.now c.args.text.now c.loop-place.place (record { name = c.in-Some.name.now; value = c.in-Some.heading.now })
    (ap (λ (s : SchemaData). slice_get s.relvars c.loop-place.place) (sym c.schema-in-loop-place.ensures.schema) ∙ c.in-Some.ensures)
    c.loop-place.invariant c.in-Some.name.now c.in-Some.heading.now refl (sym c.if-is_named.ensures)

pub loop-place-preserved : goal.loop-place-preserved
loop-place-preserved c =
    other c.args.catalogue.now c.args.text.now c.loop-place.place (record { name = c.in-Some.name.now; value = c.in-Some.heading.now })
    (ap (λ (s : SchemaData). slice_get s.relvars c.loop-place.place) (sym c.schema-in-loop-place.ensures.schema) ∙ c.in-Some.ensures)
    c.loop-place.invariant (sym c.if-is_named.ensures)
