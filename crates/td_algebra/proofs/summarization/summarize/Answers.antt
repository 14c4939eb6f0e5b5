use Rattle.std.specs.List.{All}
use Rattle.std.proofs.lemmas.List.Sorted.{All-permutation}
use Rattle.td_values.specs.Data.{Attrs}
use Rattle.td_algebra.specs.Extending.{TakesBoth, Means}
use Rattle.td_algebra.specs.Summaries.{OfTerm}
use Rattle.td_algebra.proofs.summarization.summarize.Goals as goal

pub summarize_groups-requires : goal.summarize_groups-requires
summarize_groups-requires g c =
    let P : Attrs → Type 0 = λ t. All (λ i. OfTerm (λ e. TakesBoth (λ a b. g.F.Fn.pre c.args.f.now (a, (b, tt))) e t) i.term) c.args.items.now in
    All-permutation P c.args.relation.now.tuples c.in_ok-index.index.tuples.items c.in_ok-index.ensures.entries c.requires

pub returns : goal.returns
returns g c = λ m means.
    let index = rw (c.heading.ensures, c.heading-2.ensures) at c.in_ok-index.ensures in
    let P : Attrs → Type 0 = λ t. All (λ i. OfTerm (λ e. Means (λ y z. g.F.Fn.post c.args.f.now (y, (z, tt))) m e t) i.term) c.args.items.now in
    c.summarize_groups.ensures c.args.relation.now index m (All-permutation P c.args.relation.now.tuples c.in_ok-index.index.tuples.items index.entries means)
