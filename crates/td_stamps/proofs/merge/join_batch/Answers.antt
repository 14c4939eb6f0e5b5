use Rattle.std.proofs.Common.{◌≡◌, ◌≢◌, ◌++◌, true, List, None, IfOk, MatchOption, ap, sym, subst, ◌∙◌}
use Rattle.std.specs.List.{list_all}
use Rattle.std.specs.List.Sorted.{IsPermutation}
use Rattle.std.proofs.lemmas.Result.{IfOk-weaker}
use Rattle.td_stamps.specs.declared.entry.Entry.{Entry}
use Rattle.td_stamps.specs.Entries.{in_range}
use Rattle.td_stamps.specs.Checks.{first_clash}
use Rattle.td_stamps.specs.ForProofs.{Joins}
use Rattle.td_stamps.proofs.SetLemmas.{only}
use Rattle.td_stamps.proofs.Sorting.{joined_in_order, joined_one, moved_all}
use Rattle.td_stamps.proofs.merge.join_batch.Goals as goal

pub returns-in-len1 : goal.returns-in-len1
returns-in-len1 c =
    let held = c.args.held.now in
    let e = c.entry-item.result in
    let batch = only c.args.batch.now e c.in-len1.len_at_least c.in-len1.len_below c.entry-item.is in
    let ranges = subst (λ (es : List Entry). list_all in_range es ≡ true) batch c.requires.batch_in_range in
    let joins = IfOk-weaker c.join_one.result _ _ (joined_one held e c.requires.set c.requires.held_in_range ranges) c.join_one.ensures in
    subst (λ (es : List Entry). IfOk c.join_one.result (λ o. MatchOption o (first_clash held es ≢ None) (λ v. Joins held es v.items))) (sym batch) joins

pub without_repeats-requires-clause-ranges : goal.without_repeats-requires-clause-ranges
without_repeats-requires-clause-ranges c =
    let held = c.args.held.now in
    let batch = c.args.batch.now in
    let both = c.in_ok-push_copies-2.ensures ∙ ap (λ t. t ++ batch) (c.in_ok-push_copies.ensures ∙ ap (λ t. t ++ held) c.in_ok-all.ensures.items) in
    let moved = subst (λ t. IsPermutation t c.sort_by_stamp.new.entries.items) both c.sort_by_stamp.ensures.permutation in
    moved_all held batch c.sort_by_stamp.new.entries.items c.requires.set moved in_range c.requires.held_in_range c.requires.batch_in_range

pub returns : goal.returns
returns c =
    let held = c.args.held.now in
    let batch = c.args.batch.now in
    let both = c.in_ok-push_copies-2.ensures ∙ ap (λ t. t ++ batch) (c.in_ok-push_copies.ensures ∙ ap (λ t. t ++ held) c.in_ok-all.ensures.items) in
    let moved = subst (λ t. IsPermutation t c.sort_by_stamp.new.entries.items) both c.sort_by_stamp.ensures.permutation in
    IfOk-weaker c.without_repeats.result _ _ (joined_in_order held batch c.sort_by_stamp.new.entries.items c.requires.set moved c.requires.held_in_range c.requires.batch_in_range) c.without_repeats.ensures
