use Rattle.std.proofs.Common.{◌≡◌, ◌≤◌, ◌<◌, List, true, false, length, get_or, sym, subst, ◌∙◌}
use Rattle.std.specs.List.Sorted.{IsPartitionPoint}
use Rattle.td_stamps.specs.declared.entry.Entry.{Entry}
use Rattle.td_stamps.specs.Entries.{before}
use Rattle.td_stamps.proofs.Searches.{same_at_point, absent_past_end}
use Rattle.td_stamps.proofs.held.Held.contains.Goals as goal

pub returns-in-Some : goal.returns-in-Some
returns-in-Some c =
    let xs = c.self.inside.entries.items in
    let e = c.args.entry.now in
    let i = c.place_of-place.result in
    let x = c.in-Some.held.now in
    let point = subst (λ (l : List Entry). IsPartitionPoint (λ x. before x e ≡ true) (λ x. before x e ≡ false) l i) c.deref.ensures.value c.place_of-place.ensures.place in
    let within = subst (λ (l : List Entry). i < length l) c.deref-2.ensures.value c.in-Some.ensures.lookup.3.0 in
    let at = subst (λ (l : List Entry). x ≡ get_or l i e) c.deref-2.ensures.value (c.in-Some.ensures.lookup.3.1 e) in
    rw (← c.self.view_is) (c.is_same.ensures ∙ same_at_point xs e i c.self.invariant.0 point x within at)

pub returns-in-None : goal.returns-in-None
returns-in-None c =
    let xs = c.self.inside.entries.items in
    let e = c.args.entry.now in
    let i = c.place_of-place.result in
    let point = subst (λ (l : List Entry). IsPartitionPoint (λ x. before x e ≡ true) (λ x. before x e ≡ false) l i) c.deref.ensures.value c.place_of-place.ensures.place in
    let past = subst (λ (l : List Entry). length l ≤ i) c.deref-2.ensures.value c.in-None.ensures.lookup.3 in
    rw (← c.self.view_is) (sym (absent_past_end xs e i c.self.invariant.0 point past))
