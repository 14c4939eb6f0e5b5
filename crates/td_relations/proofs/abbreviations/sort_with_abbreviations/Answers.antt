use Rattle.std.specs.Ordering.{is_lt}
use Rattle.std.specs.List.{All}
use Rattle.std.specs.List.Sorted.{IsPermutation, IsSorted}
use Rattle.std.proofs.Common.{subst, sym, rules}
use Rattle.std.proofs.lemmas.Fn.{always_returns_same}
use Rattle.std.proofs.lemmas.List.Sorted.{All-permutation}
use Rattle.td_values.specs.Order.{attrs_order}
use Rattle.td_values.specs.Whole.{IsWholeTuple}
use Rattle.td_values.proofs.AlikeLemmas.{alike_moved}
use Rattle.td_relations.specs.ForProofs.Abbreviations.{BeginsInBytes, by_beginnings}
use Rattle.td_relations.proofs.Abbreviated.{beginnings_rank, sorted_by_beginnings}
use Rattle.td_relations.proofs.abbreviations.sort_with_abbreviations.Goals as goal

pub returns-clause-sorted : goal.returns-clause-sorted
returns-clause-sorted c =
    let sorted = c.sort_unstable_by.new.self.items in
    let moved : IsPermutation c.args.tuples.items sorted = rw (sym c.with_abbreviations-beside.ensures.same) c.sort_unstable_by.ensures.permutation in
    let up = c.sort_unstable_by.ensures.sorted (λ s t. is_lt (by_beginnings s t)) beginnings_rank (always_returns_same _ _ _ (λ a r f' k. (search rules, search rules))) in
    let whole : All IsWholeTuple c.args.tuples.items = subst (All IsWholeTuple) c.deref.ensures.value c.whole_tuples.ensures in
    let all = sorted_by_beginnings sorted (alike_moved _ _ moved c.requires.alike) (All-permutation IsWholeTuple _ _ moved whole) (All-permutation BeginsInBytes _ _ moved c.with_abbreviations-beside.ensures.bytes) up in
    subst (IsSorted attrs_order) (sym c.without_abbreviations.ensures.same) all
