use Rattle.std.proofs.Common.{rules, ◌+◌, ◌∙◌, sym, get_or}
use Rattle.std.proofs.lemmas.Result.{on_ok_weaker}
use Rattle.std.proofs.lemmas.List.Sorted.{answers_always}
use Rattle.td_stamps.specs.Entries.{stamp_of}
use Rattle.td_stamps.proofs.Sorting.{less_is_before}
use Rattle.td_stamps.proofs.merge.sort_by_stamp.Goals as goal

pub returns-clause-sorted : goal.returns-clause-sorted
returns-clause-sorted c =
    let items = c.sort_by_key.new.self.items in
    on_ok_weaker c.sort_by_key.result
    (λ sorted k d low high. sym (less_is_before (get_or items (k + 1) d) (get_or items k d)) ∙ sorted stamp_of (answers_always _ _ _ (λ f a r g called. search rules)) k d low high)
    c.sort_by_key.ensures.sorted
