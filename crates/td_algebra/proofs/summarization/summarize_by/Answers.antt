use Rattle.std.proofs.Common.{subst}
use Rattle.std.specs.List.{All}
use Rattle.std.proofs.lemmas.List.Sorted.{All-permutation}
use Rattle.td_values.specs.Data.{Attrs}
use Rattle.td_values.specs.Rows.{RowsData}
use Rattle.td_relations.specs.Sets.{IsRelationOf}
use Rattle.td_tuples.specs.Items.{extended_columns}
use Rattle.td_algebra.specs.Extending.{TakesBoth, Means, Extended, RaisedBy}
use Rattle.td_algebra.specs.Raising.{Unless}
use Rattle.td_algebra.specs.Summaries.{OfTerm, over_groups}
use Rattle.td_algebra.proofs.summarization.summarize_by.Goals as goal

pub summarize_groups-requires : goal.summarize_groups-requires
summarize_groups-requires g c =
    let P : Attrs → Type 0 = λ t. All (λ i. OfTerm (λ e. TakesBoth (λ a b. g.F.Fn.pre c.args.f.now (a, (b, tt))) e t) i.term) c.args.items.now in
    All-permutation P c.args.relation.now.tuples c.in_ok-index.index.tuples.items c.in_ok-index.ensures.index.entries c.requires

pub returns : goal.returns
returns g c = λ m means.
    let r = c.args.relation.now in
    let items = c.args.items.now in
    let index = c.in_ok-index.ensures.index in
    let P : Attrs → Type 0 = λ t. All (λ i. OfTerm (λ e. Means (λ y z. g.F.Fn.post c.args.f.now (y, (z, tt))) m e t) i.term) items in
    subst (λ (s : RowsData). Unless (RaisedBy (over_groups m r s.heading) items s) (IsRelationOf (extended_columns items s.heading) (Extended (over_groups m r s.heading) items s)) c.summarize_groups.result)
    c.in_ok-index.ensures.parts (c.summarize_groups.ensures r index m (All-permutation P r.tuples c.in_ok-index.index.tuples.items index.entries means))
