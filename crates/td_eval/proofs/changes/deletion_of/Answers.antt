use Rattle.std.proofs.Common.{refl, sym, subst, ◌∙◌}
use Rattle.std.specs.FinSet as set
use Rattle.td_values.specs.Headings.{Header}
use Rattle.td_relations.specs.Deltas.{DeltaData, IsDifference}
use Rattle.td_relations.specs.Sets.{IsRelation}
use Rattle.td_algebra.specs.Functions.{minus_of}
use Rattle.td_eval.proofs.Exact.{less_differs}
use Rattle.td_eval.proofs.Rest.{selected}
use Rattle.td_eval.proofs.Selecting.{apart_from_nothing, chosen_heading, chosen_there}
use Rattle.td_eval.proofs.changes.deletion_of.Goals as goal

pub of-requires : goal.of-requires
of-requires c =
    let e = c.empty-nothing.ensures in
    record {
      heading = e.heading ∙ c.in_ok-copy.ensures ∙ c.heading.ensures ∙ sym (chosen_heading c.requires.0 c.args.relation.now c.args.gone c.requires.1);
      apart = apart_from_nothing c.empty-nothing.result c.args.gone e.members;
    }

pub returns : goal.returns
returns c =
    let r = c.args.relation.now in
    let g = c.args.gone in
    let x : DeltaData = record { inserted = c.empty-nothing.result; deleted = g } in
    let all = selected c.requires.0 r g c.requires.1 in
    subst (IsDifference r (minus_of r g)) (sym c.of.ensures)
    (less_differs r g (chosen_there c.requires.0 r g c.requires.1) x
    (subst (λ (h : Header). IsRelation h set.empty x.inserted) (c.in_ok-copy.ensures ∙ c.heading.ensures) c.empty-nothing.ensures)
    (record { heading = all.heading; members = refl; ascending = all.ascending }))
