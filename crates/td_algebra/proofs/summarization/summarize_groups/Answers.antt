use Rattle.std.proofs.Common.{◌≡◌, get_or, sym, ap, ◌∙◌, subst}
use Rattle.std.specs.List.{All, filter}
use Rattle.td_tuples.specs.Parts.{Fits, names_of}
use Rattle.td_tuples.proofs.ByName.{whole_part}
use Rattle.td_algebra.specs.ForProofs.Index.{found, has_part}
use Rattle.td_algebra.specs.Raising.{AnswersBy}
use Rattle.td_algebra.specs.Extending.{extended_at}
use Rattle.td_algebra.specs.Summaries.{group_of, over_groups, summary_over}
use Rattle.td_algebra.proofs.KeyGroups.{group_is}
use Rattle.td_algebra.proofs.Walks.{all_same}
use Rattle.td_algebra.proofs.summarization.summarize_groups.Goals as goal

pub relation_of_extended-requires : goal.relation_of_extended-requires
relation_of_extended-requires g c =
    let h = c.args.per.now.heading in
    c.extend_by_groups-tuples.ensures.typed h (subst (All (Fits h)) (sym c.tuples.ensures.all) c.rows_fit.ensures.fit)

pub returns : goal.returns
returns g c = λ r index m means.
    let per = c.args.per.now in
    let h = per.heading in
    let items = c.args.items.now in
    let x = c.args.groups.now in
    let same : All (λ t. extended_at (λ s u. summary_over m (found x t) s) items t ≡ extended_at (over_groups m r h) items t) per.tuples = λ k d within.
    let t = get_or per.tuples k d in
    let fits : Fits h t = index.other_rows.fit k d within in
    let group : found x t ≡ group_of r h t = group_is r (names_of h) per (names_of h) x index (λ n a b. (a, a)) t fits ∙ ap (λ u. filter (has_part (names_of h) u) r.tuples) (whole_part h t fits) in
    ap (λ ts. extended_at (λ s u. summary_over m ts s) items t) group in
    let told = (rw c.tuples.ensures.all at c.extend_by_groups-tuples.ensures.means) m means in
    c.relation_of_extended.ensures (over_groups m r h) (subst (AnswersBy (λ v. v.items) c.extend_by_groups-tuples.result) (all_same _ (extended_at (over_groups m r h) items) per.tuples same) told)
