use Rattle.std.proofs.Common.{slice_get, ap, sym, ◌∙◌}
use Rattle.td_schema.specs.Schemas.{SchemaData}
use Rattle.td_incremental.proofs.references.heading_at.Goals as goal

pub returns-in-Some : goal.returns-in-Some
returns-in-Some c = record {
  name = c.in-Some.field-0-0.now;
  heading = ap (λ (s : SchemaData). slice_get s.relvars c.args.place) (sym c.schema.ensures.schema) ∙ c.in-Some.ensures;
}
