use Rattle.std.proofs.Common.{None, Some, length, refl, sym, ap, ◌∙◌}
use Rattle.std.proofs.lemmas.Option.{slice_get_past, slice_get_read}
use Rattle.td_meaning.specs.ForProofs.Checks.{side_value}
use Rattle.td_meaning.proofs.Checks.{value_found}
use Rattle.td_meaning.proofs.conditions.value_at.Goals as goal

pub returns-in-Some : goal.returns-in-Some
returns-in-Some c =
    ap (side_value c.args.tuple.now) c.in-Attribute.is ∙ value_found c.args.tuple.now c.attributes.result.now c.in-Attribute.at (Some c.in-Some.attribute.now) c.attributes.ensures.all
    (sym (slice_get_read c.attributes.result.now (length c.attributes.result.now) c.in-Attribute.at c.in-Some.attribute.now refl c.in-Some.ensures.lookup.3.0 c.in-Some.ensures.lookup.1))

pub returns-in-None : goal.returns-in-None
returns-in-None c =
    ap (side_value c.args.tuple.now) c.in-Attribute.is ∙ value_found c.args.tuple.now c.attributes.result.now c.in-Attribute.at None c.attributes.ensures.all
    (sym (slice_get_past c.attributes.result.now c.in-Attribute.at c.in-None.ensures.lookup.3))
