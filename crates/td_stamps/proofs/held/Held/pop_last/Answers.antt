use Rattle.std.proofs.Common.{◌≡◌, ◌≤◌, true, List, length, option_to_list, sym, subst, ◌∙◌, arith}
use Rattle.std.specs.List.{list_all}
use Rattle.std.proofs.lemmas.List.{length-append}
use Rattle.std.proofs.lemmas.List.Folds.{list_all-append}
use Rattle.td_stamps.specs.declared.entry.Entry.{Entry}
use Rattle.td_stamps.specs.Entries.{in_range}
use Rattle.td_stamps.specs.Sets.{is_set}
use Rattle.td_stamps.proofs.SetLemmas.{first_holds}
use Rattle.td_stamps.proofs.Listings.{set_front}
use Rattle.td_stamps.proofs.held.Held.pop_last.Goals as goal

pub invariant_of-self : goal.invariant_of-self
invariant_of-self c =
    let front = c.pop.new.self.items in
    let last = option_to_list c.pop.result in
    let limit = c.self.inside.limit in
    let whole = subst (λ (xs : List Entry). (is_set xs ≡ true) × (list_all in_range xs ≡ true) × (length xs ≤ limit)) c.pop.ensures.items c.self.invariant in
    let few = whole.2 in
    let long = length-append front last in
    (set_front front last whole.0, first_holds _ _ (sym (list_all-append in_range front last) ∙ whole.1), omega arith)
