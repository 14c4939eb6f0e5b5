use Rattle.std.proofs.Common.{List, ◌++◌, ap, ◌∙◌}
use Rattle.td_values.specs.Data.{Attrs}
use Rattle.td_relations.specs.Sets.{tuple_set}
use Rattle.td_bases.proofs.Returning.{both_listed}
use Rattle.td_bases.proofs.ways.refill_relation.Goals as goal

pub returns : goal.returns
returns c =
    let rows = c.into_parts-heading.ensures in
    let left = c.into_rows.ensures.same in
    let put = c.in-Ok-append.ensures.items ∙ ap (λ (xs : List Attrs). xs ++ c.args.back.deleted.items) (c.in-Ok.ensures.items ∙ ap (λ (xs : List Attrs). xs ++ c.into_parts-heading.result.1.items) c.args.back.room.empty ∙ rows.tuples ∙ ap (λ r. r.tuples) left) in
    record {
      heading = c.from_tuples.ensures.heading ∙ rows.heading ∙ ap (λ r. r.heading) left;
      members = c.from_tuples.ensures.members ∙ ap tuple_set put ∙ both_listed c.args.left.tuples c.args.back.deleted.items;
      ascending = c.from_tuples.ensures.ascending;
    }
