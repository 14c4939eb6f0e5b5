use Rattle.std.specs.Ordering.{is_lt}
use Rattle.std.specs.List.{All}
use Rattle.std.proofs.Common.{subst, rules}
use Rattle.std.proofs.lemmas.Fn.{always_returns_same}
use Rattle.std.proofs.lemmas.List.Sorted.{All-permutation}
use Rattle.td_values.specs.Alike.{values_order}
use Rattle.td_values.specs.Whole.{IsWholeTuple}
use Rattle.td_values.proofs.AlikeLemmas.{alike_moved, sorted_alike, values_rank}
use Rattle.td_values.proofs.alike.sort_alike.Goals as goal

pub returns-clause-sorted : goal.returns-clause-sorted
returns-clause-sorted c =
    let moved = c.sort_unstable_by.ensures.permutation in
    let up = c.sort_unstable_by.ensures.sorted (λ s t. is_lt (values_order s t)) values_rank (always_returns_same _ _ _ (λ a r f' k. (search rules, search rules))) in
    sorted_alike _ (alike_moved _ _ moved c.requires) (All-permutation IsWholeTuple _ _ moved (subst (All IsWholeTuple) c.deref.ensures.value c.whole_tuples.ensures)) up
