use Rattle.std.proofs.Common.{List, map, sym, ◌∙◌, subst}
use Rattle.std.specs.FinSet as set
use Rattle.std.specs.List.{All}
use Rattle.td_values.specs.Data.{Attrs}
use Rattle.td_values.specs.Headings.{Header}
use Rattle.td_relations.specs.Sets.{IsRelation}
use Rattle.td_tuples.specs.Parts.{Fits, names_of, cut}
use Rattle.td_tuples.specs.Unions.{with_attribute}
use Rattle.td_algebra.specs.Nested.{relation_value}
use Rattle.td_algebra.proofs.Grouping.{all_map}
use Rattle.td_algebra.proofs.groups.group_of_run.Goals as goal

pub from_tuples-group-requires : goal.from_tuples-group-requires
from_tuples-group-requires c =
    let f = cut (names_of c.args.inner.now) in
    subst (λ (h : Header). All (Fits h) c.in_ok-parts.parts.items) (sym c.in_ok-copy.ensures)
    (subst (All (Fits c.args.inner.now)) (sym c.in_ok-parts.ensures) (all_map (Fits c.args.inner.now) f c.args.tuples.now c.requires))

pub returns : goal.returns
returns c =
    let f = cut (names_of c.args.inner.now) in
    let g = c.from_tuples-group.result in (
      g,
      subst (λ (h : Header). IsRelation h (set.from_list (map f c.args.tuples.now)) g) c.in_ok-copy.ensures
          (subst (λ (ts : List Attrs). IsRelation c.in_ok-copy.field-0 (set.from_list ts) g) c.in_ok-parts.ensures c.from_tuples-group.ensures),
      c.in_ok-more.ensures ∙ (λ i. with_attribute (c.in_ok-copy-2.ensures i) (relation_value (c.into_rows.ensures.same i)) (c.in_ok-rest.ensures i)),
    )
