use Rattle.std.proofs.Common.{rules, ◌++◌, is_lt, subst}
use Rattle.std.specs.List.Sorted.{IsPermutation}
use Rattle.std.proofs.lemmas.Fn.{always_returns_same}
use Rattle.std.proofs.lemmas.List.Sorted.{IsPermutation-append_comm, IsPermutation-trans, ranks_by}
use Rattle.td_values.specs.Data.{Attrs}
use Rattle.td_values.specs.Order.{attrs_order}
use Rattle.td_values.specs.Proving.Total.{attrs_order_total}
use Rattle.td_algebra.specs.ForProofs.Places.{values_at}
use Rattle.td_algebra.proofs.key_changes.merge_in.Goals as goal

pub returns-clause-more : goal.returns-clause-more
returns-clause-more c =
    let old = c.args.entries.now.items in
    let more = c.args.tuples.items in
    let sorted = c.sort_unstable_by.new.self.items in
    IsPermutation-trans (more ++ old) (old ++ more) sorted (IsPermutation-append_comm more old)
    (subst (λ xs. IsPermutation xs sorted) c.in-Ok.ensures.items c.sort_unstable_by.ensures.permutation)

pub returns-clause-sorted : goal.returns-clause-sorted
returns-clause-sorted c =
    let f = values_at c.args.places.now in
    c.sort_unstable_by.ensures.sorted (λ (s t : Attrs). is_lt (attrs_order (f s) (f t))) (ranks_by attrs_order_total f) (always_returns_same _ _ _ (λ a r f' called. (search rules, search rules)))
