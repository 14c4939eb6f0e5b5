use Rattle.std.proofs.Common.{sym, subst, ap, ◌∙◌}
use Rattle.std.specs.FinSet as set
use Rattle.td_values.specs.Headings.{Header}
use Rattle.td_values.specs.Rows.{RowsData}
use Rattle.td_relations.specs.Deltas.{DeltaData, IsDifference}
use Rattle.td_relations.specs.Sets.{IsRelation, body}
use Rattle.td_algebra.specs.KeyIndexes.{AreKeyIndexes}
use Rattle.td_algebra.specs.Functions.{minus_of, union_of}
use Rattle.td_eval.proofs.Exact.{replaced_differs}
use Rattle.td_eval.proofs.Selecting.{apart, chosen_heading, chosen_there}
use Rattle.td_eval.proofs.changes.replacement_of.Goals as goal

pub lacking_tuples-requires-clause-heading : goal.lacking_tuples-requires-clause-heading
lacking_tuples-requires-clause-heading c = c.requires.heading ∙ sym (ap (λ (r : RowsData). r.heading) c.get.ensures)

pub lacking_tuples-requires-clause-indexes : goal.lacking_tuples-requires-clause-indexes
lacking_tuples-requires-clause-indexes c = subst (λ (r : RowsData). AreKeyIndexes r c.indexes.result.now) (sym c.get.ensures) c.indexes.ensures

pub minus-requires : goal.minus-requires
minus-requires c = chosen_heading c.requires.gone.0 c.args.tuples.now c.args.gone.now c.requires.gone.1 ∙ sym c.requires.heading

pub of-requires : goal.of-requires
of-requires c =
    let r = c.args.tuples.now in
    let g = c.args.gone.now in
    let s = c.args.more.now in
    let i = rw c.get.ensures at c.in_ok-inserted.ensures in
    let e = c.in_ok-deleted.ensures in
    record {
      heading = i.heading ∙ c.requires.heading ∙ sym (e.heading ∙ chosen_heading c.requires.gone.0 r g c.requires.gone.1);
      apart = apart r g s c.in_ok-inserted.inserted c.in_ok-deleted.deleted (chosen_there c.requires.gone.0 r g c.requires.gone.1) i.members e.members;
    }

pub returns : goal.returns
returns c =
    let r = c.args.tuples.now in
    let g = c.args.gone.now in
    let s = c.args.more.now in
    let x : DeltaData = record { inserted = c.in_ok-inserted.inserted; deleted = c.in_ok-deleted.deleted } in
    subst (IsDifference r (union_of (minus_of r g) s)) (sym c.of.ensures)
    (replaced_differs r g (chosen_there c.requires.gone.0 r g c.requires.gone.1) s x
    (subst (λ (h : Header). IsRelation h (set.difference (body s) (body r)) x.inserted) c.requires.heading (rw c.get.ensures at c.in_ok-inserted.ensures))
    (subst (λ (h : Header). IsRelation h (set.difference (body g) (body s)) x.deleted) (chosen_heading c.requires.gone.0 r g c.requires.gone.1) c.in_ok-deleted.ensures))
