use Rattle.std.proofs.Common.{is_eq, rules, ◌∙◌, subst}
use Rattle.std.specs.List.{All}
use Rattle.std.proofs.lemmas.Fn.{dedup_same}
use Rattle.td_values.specs.Alike.{values_order}
use Rattle.td_values.specs.Data.{Attrs}
use Rattle.td_values.specs.Whole.{IsWholeTuple}
use Rattle.td_relations.proofs.Listed.{dedup_alike}
use Rattle.td_relations.proofs.places.without_repeats.Goals as goal

pub returns : goal.returns
returns c =
    dedup_same _ (λ (s t : Attrs). is_eq (values_order s t)) _ (λ x y b f' x' y' k. search rules) _ _ c.dedup_by.ensures.filtered
    ∙ dedup_alike c.args.tuples.items c.requires (subst (All IsWholeTuple) c.deref.ensures.value c.whole_tuples.ensures)
