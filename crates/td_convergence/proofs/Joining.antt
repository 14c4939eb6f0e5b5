-- What one meeting leaves at each number.
use Rattle.std.proofs.Common.{◌≡◌, ◌⊎◌, inl, inr, ℕ, true, false, ◌||◌, if◌then◌else◌, eqb, List, ◌++◌, refl, sym, ap, subst, ◌∙◌}
use mathlib.Core.Bool.{false≢true}
use Rattle.std.specs.List.{list_all}
use Rattle.std.proofs.lemmas.Bool.{cond_both, eqb-true, eq-eqb, or_cases, or_left, or_right}
use Rattle.std.proofs.lemmas.List.Folds.{list_any-append}
use Rattle.td_stamps.specs.Entries.{in_range, same}
use Rattle.td_stamps.specs.Sets.{NoClash, has, is_set, union}
use Rattle.td_stamps.specs.declared.entry.Entry.{Entry}
use Rattle.td_stamps.proofs.Merges.{merged, union_has_both, union_is_set}
use Rattle.td_replica.specs.Seen.{Seen}
use Rattle.td_meeting.specs.Meetings.{MeetsWhole}
use Rattle.td_meeting.specs.declared.meeting.Met.{Met}
use Rattle.td_meeting.proofs.Unions.{adds_nothing, free_then, takes_union}
use Rattle.td_convergence.specs.Trees.{Numbered, NoneClash, with_two}

-- ---- two sites

-- what a meeting asks of a site's entries, whether they have a history or not
pub record IsHeld (es : List Entry) : Type 0 where
  pub set : is_set es ≡ true
  pub ranges : list_all in_range es ≡ true

-- a site that holds what either of two held
pub record HoldsBoth (s t after : Seen) : Type 0 where
  pub held : IsHeld after.entries
  pub members : (e : Entry) → has after.entries e ≡ (has s.entries e || has t.entries e)

pub holds_both : (s t after : Seen) → IsHeld s.entries → IsHeld t.entries → NoClash (s.entries ++ t.entries)
    → after.entries ≡ union s.entries t.entries → HoldsBoth s t after
holds_both s t after held_s held_t free is =
    let held : IsHeld (union s.entries t.entries) = record {
      set = union_is_set s.entries t.entries held_s.set free;
      ranges = (merged s.entries t.entries held_s.set free).all in_range held_s.ranges held_t.ranges;
    } in
    record {
      held = subst IsHeld (sym is) held;
      members = λ e. ap (λ (l : List Entry). has l e) is ∙ union_has_both s.entries t.entries held_s.set free e;
    }

-- after a meeting both do
both_hold : (s t : Seen) (met : Met) (after other : Seen) → IsHeld s.entries → IsHeld t.entries
    → NoClash (s.entries ++ t.entries) → MeetsWhole s t met after other → HoldsBoth s t after × HoldsBoth s t other
both_hold s t met after other held_s held_t free told =
    let first : after.entries ≡ union s.entries t.entries =
    takes_union s t told.gains after held_s.set held_t.ranges free told.first in
    let one = holds_both s t after held_s held_t free first in
    let apart : NoClash (t.entries ++ after.entries) =
    subst (λ (l : List Entry). NoClash (t.entries ++ l)) (sym first)
    (free_then s.entries t.entries held_s.set held_t.set free) in
    let second : other.entries ≡ union t.entries after.entries =
    takes_union t after told.gives other held_t.set one.held.ranges apart told.second in
    let both : other.entries ≡ union s.entries t.entries =
    second ∙ ap (union t.entries) first ∙ adds_nothing s.entries t.entries held_s.set held_t.set free in
    (one, holds_both s t other held_s held_t free both)

-- ---- all numbers

abbrev pub AllHeld : Numbered → Type 0
AllHeld w = (n : ℕ) → IsHeld (w n).entries

-- the first of a pair, the second, or another number
pub two_cases : (w : Numbered) (p : ℕ × ℕ) (after other : Seen) (n : ℕ) (P : Seen → Type 0)
    → (n ≡ p.0 → P after) → (n ≡ p.1 → P other) → (eqb n p.0 ≡ false → eqb n p.1 ≡ false → P (w n))
    → P (with_two w p after other n)
two_cases w p after other n P first second neither =
    cond_both (eqb n p.0) after (if eqb n p.1 then other else w n) P (λ is. first (eqb-true n p.0 is))
    (λ no_first. cond_both (eqb n p.1) other (w n) P (λ is. second (eqb-true n p.1 is)) (neither no_first))

pub same_number : (n : ℕ) → eqb n n ≡ true
same_number n = eq-eqb n n refl

-- what a meeting of the two of a pair leaves
pub record Joined (w : Numbered) (p : ℕ × ℕ) (v : Numbered) : Type 0 where
  pub held : AllHeld v
  pub free : NoneClash v
  pub grows : (n : ℕ) (e : Entry) → has (w n).entries e ≡ true → has (v n).entries e ≡ true
  pub up : (e : Entry) → has (w p.0).entries e ≡ true → has (v p.1).entries e ≡ true
  pub down : (e : Entry) → has (w p.1).entries e ≡ true → has (v p.0).entries e ≡ true
  pub from : (n : ℕ) (e : Entry) → has (v n).entries e ≡ true
      → (has (w n).entries e ≡ true) ⊎ ((has (w p.0).entries e ≡ true) ⊎ (has (w p.1).entries e ≡ true))

-- an entry of one of the two
of_one : (w : Numbered) (p : ℕ × ℕ) (e : Entry) → has ((w p.0).entries ++ (w p.1).entries) e ≡ true
    → (n : ℕ) × (has (w n).entries e ≡ true)
of_one w p e held =
    let one = sym (list_any-append (same e) (w p.0).entries (w p.1).entries) ∙ held in
    elim (or_cases (has (w p.0).entries e) (has (w p.1).entries e) one) [
      | inl first ↦ (p.0, first)
      | inr second ↦ (p.1, second)
    ]

free_pair : (w : Numbered) (p : ℕ × ℕ) → NoneClash w → NoClash ((w p.0).entries ++ (w p.1).entries)
free_pair w p free x y held_x held_y =
    let of_x = of_one w p x held_x in
    let of_y = of_one w p y held_y in
    free of_x.0 of_y.0 x y of_x.1 of_y.1

module _ (w : Numbered) (p : ℕ × ℕ) (after other : Seen) (held : (n : ℕ) → IsHeld (w n).entries) (free : NoneClash w)
    (first : HoldsBoth (w p.0) (w p.1) after) (second : HoldsBoth (w p.0) (w p.1) other) where
  held_then : (n : ℕ) → IsHeld (with_two w p after other n).entries
  held_then n =
      two_cases w p after other n (λ (s : Seen). IsHeld s.entries)
      (λ _. first.held) (λ _. second.held) (λ _ _. held n)

  -- each of the two has what either had
  either_gets : (n : ℕ) (e : Entry) → (eqb n p.0 || eqb n p.1) ≡ true
      → (has (w p.0).entries e || has (w p.1).entries e) ≡ true → has (with_two w p after other n).entries e ≡ true
  either_gets n e is_one had =
      two_cases w p after other n (λ (s : Seen). has s.entries e ≡ true)
      (λ _. first.members e ∙ had) (λ _. second.members e ∙ had)
      (λ no_first no_second. absurd (false≢true (sym no_second ∙ sym (ap (λ b. b || eqb n p.1) no_first) ∙ is_one)))

  grows_then : (n : ℕ) (e : Entry) → has (w n).entries e ≡ true → has (with_two w p after other n).entries e ≡ true
  grows_then n e had =
      let at = λ (m : ℕ) (is : n ≡ m). subst (λ k. has (w k).entries e ≡ true) is had in
      two_cases w p after other n (λ (s : Seen). has s.entries e ≡ true)
      (λ is. first.members e ∙ or_left (has (w p.0).entries e) (has (w p.1).entries e) (at p.0 is))
      (λ is. second.members e ∙ or_right (has (w p.0).entries e) (has (w p.1).entries e) (at p.1 is))
      (λ _ _. had)

  up_then : (e : Entry) → has (w p.0).entries e ≡ true → has (with_two w p after other p.1).entries e ≡ true
  up_then e had =
      either_gets p.1 e (or_right (eqb p.1 p.0) (eqb p.1 p.1) (same_number p.1))
      (or_left (has (w p.0).entries e) (has (w p.1).entries e) had)

  down_then : (e : Entry) → has (w p.1).entries e ≡ true → has (with_two w p after other p.0).entries e ≡ true
  down_then e had =
      either_gets p.0 e (or_left (eqb p.0 p.0) (eqb p.0 p.1) (same_number p.0))
      (or_right (has (w p.0).entries e) (has (w p.1).entries e) had)

  from_then : (n : ℕ) (e : Entry) → has (with_two w p after other n).entries e ≡ true
      → (has (w n).entries e ≡ true) ⊎ ((has (w p.0).entries e ≡ true) ⊎ (has (w p.1).entries e ≡ true))
  from_then n e =
      let P : Seen → Type 0 = λ s. has s.entries e ≡ true
      → (has (w n).entries e ≡ true) ⊎ ((has (w p.0).entries e ≡ true) ⊎ (has (w p.1).entries e ≡ true)) in
      two_cases w p after other n P
      (λ _ has_it. inr (or_cases (has (w p.0).entries e) (has (w p.1).entries e) (sym (first.members e) ∙ has_it)))
      (λ _ has_it. inr (or_cases (has (w p.0).entries e) (has (w p.1).entries e) (sym (second.members e) ∙ has_it)))
      (λ _ _ has_it. inl has_it)

  -- so it was held at some number
  was_held : (n : ℕ) (e : Entry) → has (with_two w p after other n).entries e ≡ true
      → (m : ℕ) × (has (w m).entries e ≡ true)
  was_held n e has_it = elim (from_then n e has_it) [
    | inl own ↦ (n, own)
    | inr of_two ↦ elim of_two [ inl had ↦ (p.0, had) | inr had ↦ (p.1, had) ]
  ]

  free_after : NoneClash (with_two w p after other)
  free_after n m x y has_x has_y =
      let of_x = was_held n x has_x in
      let of_y = was_held m y has_y in
      free of_x.0 of_y.0 x y of_x.1 of_y.1

  two_joined : Joined w p (with_two w p after other)
  two_joined = record {
    held = held_then;
    free = free_after;
    grows = grows_then;
    up = up_then;
    down = down_then;
    from = from_then;
  }

pub joined : (w : Numbered) (p : ℕ × ℕ) {met : Met} {after other : Seen} → AllHeld w → NoneClash w
    → MeetsWhole (w p.0) (w p.1) met after other → Joined w p (with_two w p after other)
joined w p {met} {after} {other} held free told =
    let both = both_hold (w p.0) (w p.1) met after other (held p.0) (held p.1) (free_pair w p free) told in
    two_joined w p after other held free both.0 both.1
