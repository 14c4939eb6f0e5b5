-- What two sites hold after they met.
use Rattle.std.proofs.Common.{◌≡◌, Bool, true, false, ◌||◌, List, ◌++◌, Ok, inl, inr, refl, sym, ap, subst, ◌∙◌}
use Rattle.std.specs.List.{list_all}
use Rattle.std.proofs.lemmas.Bool.{or_cases}
use Rattle.std.proofs.lemmas.List.Folds.{list_any-append}
use Rattle.td_stamps.specs.Entries.{in_range, same}
use Rattle.td_stamps.specs.Sets.{NoClash, has, is_set, union}
use Rattle.td_stamps.specs.declared.entry.Entry.{Entry}
use Rattle.td_stamps.proofs.Gaps.{after_completes}
use Rattle.td_stamps.proofs.Merges.{NoClash-fewer, has-append_right, merged, same_set, union_has_both, union_is_set}
use Rattle.td_replica.specs.Seen.{Seen, IsSound}
use Rattle.td_replica.specs.declared.calls.Taken.{Taken}
use Rattle.td_meeting.specs.Meetings.{MeetsWhole, TakesFrom}
use Rattle.td_meeting.specs.declared.meeting.Met.{Met}

-- a site takes what it lacks, and holds the union
pub takes_union : (s t : Seen) (x : Taken) (after : Seen) → is_set s.entries ≡ true → list_all in_range t.entries ≡ true → NoClash (s.entries ++ t.entries) → TakesFrom s t (Ok x) after → after.entries ≡ union s.entries t.entries
takes_union s t x after set ranges free told =
    ap (λ (u : Seen). u.entries) told.takes.union ∙ ap (union s.entries) told.lacks.rest
    ∙ after_completes s.entries t.entries told.lacks.vector set ranges free (λ site. (told.lacks.first.numbers site).all)

again : (a b : Bool) → (b || (a || b)) ≡ (a || b)
again true true = refl
again true false = refl
again false true = refl
again false false = refl

module _ (a b : List Entry) (set_a : is_set a ≡ true) (set_b : is_set b ≡ true) (free : NoClash (a ++ b)) where
  both_has : (e : Entry) → has (union a b) e ≡ (has a e || has b e)
  both_has e = union_has_both a b set_a free e

  in_both : (e : Entry) → has (union a b) e ≡ true → has (a ++ b) e ≡ true
  in_both e held = list_any-append (same e) a b ∙ sym (both_has e) ∙ held

  held_before : (e : Entry) → has (b ++ union a b) e ≡ true → has (a ++ b) e ≡ true
  held_before e held = elim (or_cases (has b e) (has (union a b) e) (sym (list_any-append (same e) b (union a b)) ∙ held)) [
    | inl one ↦ has-append_right a b e one
    | inr both ↦ in_both e both
  ]

  pub free_then : NoClash (b ++ union a b)
  free_then = NoClash-fewer (b ++ union a b) (a ++ b) held_before free

  -- what one of them has adds nothing to the union
  pub adds_nothing : union b (union a b) ≡ union a b
  adds_nothing =
      same_set (union b (union a b)) (union a b) (union_is_set b (union a b) set_b free_then) (union_is_set a b set_a free)
      (λ e. union_has_both b (union a b) set_b free_then e ∙ ap (λ (x : Bool). has b e || x) (both_has e) ∙ again (has a e) (has b e) ∙ sym (both_has e))

pub leaves_union : (s t : Seen) (met : Met) (after other : Seen) → IsSound s → IsSound t → MeetsWhole s t met after other → NoClash (s.entries ++ t.entries)
    → (after.entries ≡ union s.entries t.entries) × (other.entries ≡ union s.entries t.entries)
leaves_union s t met after other sound_s sound_t told free =
    let first = takes_union s t told.gains after sound_s.set sound_t.ranges free told.first in
    let ranges : list_all in_range (union s.entries t.entries) ≡ true = (merged s.entries t.entries sound_s.set free).all in_range sound_s.ranges sound_t.ranges in
    let apart : NoClash (t.entries ++ after.entries) = subst (λ (l : List Entry). NoClash (t.entries ++ l)) (sym first) (free_then s.entries t.entries sound_s.set sound_t.set free) in
    let second = takes_union t after told.gives other sound_t.set (subst (λ (l : List Entry). list_all in_range l ≡ true) (sym first) ranges) apart told.second in
    (first, second ∙ ap (union t.entries) first ∙ adds_nothing s.entries t.entries sound_s.set sound_t.set free)
