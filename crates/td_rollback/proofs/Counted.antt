-- The number of entries that are run, where lists name the places.
use Rattle.std.proofs.Common.{◌≡◌, ◌↔◌, ◌==◌, eqb-true, eq-eqb, ⊎_elim, ℕ, ◌+◌, Bool, true, false, if◌then◌else◌, List, [], ◌∷◌, ◌++◌, refl, sym, subst, ◌∙◌}
use mathlib.Core.Bool.{true≢false, false≢true}
use Rattle.std.specs.List.{Contains, list_any}
use Rattle.std.proofs.lemmas.Bool.{or_cases, or_left, or_right}
use Rattle.std.proofs.lemmas.List.Elements.{Contains-append_left, Contains-append_right, Contains-append_cases}
use Rattle.td_stamps.specs.declared.entry.Entry.{Entry}
use Rattle.td_stamps.specs.Entries.{same}
use Rattle.td_stamps.proofs.EntryLemmas.{same-is}
use Rattle.td_rollback.specs.Counts.{meets, runs_of}
use Rattle.td_rollback.specs.Laws.{ListsPlaces, RunsAreCounted}
use Rattle.td_rollback.specs.Touched.{AreMore, IsTargetOf, Runs, none_left, fresh, touched, untouched}
use Rattle.td_rollback.proofs.Members.{has_cases, has_first, has_later, has_none, item_cases, item_first, item_later, item_none}
use Rattle.td_rollback.proofs.More as more

-- the test of names, as a fact
pub named : (names : List ℕ) (n : ℕ) → list_any (λ m. m == n) names ≡ true → Contains names n
named [] n h = absurd (false≢true h)
named (m ∷ ms) n h = ⊎_elim (λ is. subst (λ k. Contains (m ∷ ms) k) (eqb-true m n is) (item_first m ms)) (λ later. item_later m n ms (named ms n later)) (or_cases (m == n) (list_any (λ k. k == n) ms) h)

is_named : (names : List ℕ) (n : ℕ) → Contains names n → list_any (λ m. m == n) names ≡ true
is_named [] n h = item_none n h
is_named (m ∷ ms) n h = ⊎_elim (λ is. or_left (m == n) (list_any (λ k. k == n) ms) (eq-eqb m n is)) (λ later. or_right (m == n) (list_any (λ k. k == n) ms) (is_named ms n later)) (item_cases m n ms h)

met : (names places : List ℕ) → meets names places ≡ true → (n : ℕ) × Contains places n × Contains names n
met names [] h = absurd (false≢true h)
met names (p ∷ ps) h = ⊎_elim
    (λ is. (p, item_first p ps, named names p is))
    (λ later. let k = met names ps later in (k.0, item_later p k.0 ps k.1, k.2))
    (or_cases (list_any (λ m. m == p) names) (meets names ps) h)

is_met : (names places : List ℕ) (n : ℕ) → Contains places n → Contains names n → meets names places ≡ true
is_met names [] n h i = item_none n h
is_met names (p ∷ ps) n h i = ⊎_elim
    (λ is. or_left (list_any (λ m. m == p) names) (meets names ps) (is_named names p (subst (Contains names) (sym is) i)))
    (λ later. or_right (list_any (λ m. m == p) names) (meets names ps) (is_met names ps n later i))
    (item_cases p n ps h)

module _ (F T : Entry → ℕ → Type 0) (footprint targets : Entry → List ℕ) where
  abbrev Named : List Entry → List ℕ → Type 0
  Named ran names = (n : ℕ) → Contains names n ↔ IsTargetOf T ran n

  named_more : (ran : List Entry) (names : List ℕ) (e : Entry) → ((n : ℕ) → Contains (targets e) n ↔ T e n) → Named ran names → Named (e ∷ ran) (targets e ++ names)
  named_more ran names e are so_far n = (
    λ h. ⊎_elim (λ t. (e, has_first e ran, (are n).0 t)) (λ k. let f = (so_far n).0 k in (f.0, has_later e f.0 ran f.1, f.2)) (Contains-append_cases (targets e) names n h),
    λ h. ⊎_elim
        (λ is. Contains-append_left (targets e) names n ((are n).1 (subst (λ (f : Entry). T f n) is h.2)))
        (λ later. Contains-append_right (targets e) names n ((so_far n).1 (h.0, later, h.2)))
        (has_cases e h.0 ran h.1),
  )

  rest_named : {P : Entry → ℕ → Type 0} (names : Entry → List ℕ) (e : Entry) (es : List Entry) → ListsPlaces P names (e ∷ es) → ListsPlaces P names es
  rest_named names e es all f h = all f (has_later e f es h)

  module _ (ran : List Entry) (names : List ℕ) (so_far : Named ran names) (es fs : List Entry) (e y : Entry) (is : same e y ≡ true) (are : (n : ℕ) → Contains (footprint e) n ↔ F e n) where
    by_names : (b : Bool) (m n : ℕ) → meets names (footprint e) ≡ b → Runs F T (e ∷ ran) es fs m → Runs F T ran es fs n → Runs F T ran (y ∷ es) (e ∷ fs) (if b then m + 1 else n)
    by_names true m n h again kept = let k = met names (footprint e) h in touched is (k.0, (are k.0).0 k.1, (so_far k.0).0 k.2) again
    by_names false m n h again kept = untouched is (λ t. true≢false (sym (is_met names (footprint e) t.0 ((are t.0).1 t.1) ((so_far t.0).1 t.2)) ∙ h)) kept

  by_first : (b : Bool) (ran es fs : List Entry) (e y : Entry) (m n : ℕ) → same e y ≡ b → (same e y ≡ true → Runs F T ran (y ∷ es) (e ∷ fs) m) → (same e y ≡ false → Runs F T ran (y ∷ es) (e ∷ fs) n) → Runs F T ran (y ∷ es) (e ∷ fs) (if b then m else n)
  by_first true ran es fs e y m n is one other = one is
  by_first false ran es fs e y m n is one other = other is

  pub counted : (ran : List Entry) (names : List ℕ) (old new : List Entry) → Named ran names → AreMore old new → ListsPlaces F footprint old → ListsPlaces T targets new → Runs F T ran old new (runs_of footprint targets names old new)
  counted ran names [] [] so_far among feet all = none_left
  counted ran names (y ∷ es) [] so_far among feet all = more.none_left y es among
  counted ran names [] (e ∷ fs) so_far among feet all =
      fresh refl (counted (e ∷ ran) (targets e ++ names) [] fs (named_more ran names e (all e (has_first e fs)) so_far) (more.fresh_on e [] fs refl among) (λ f h. has_none f h) (rest_named targets e fs all))
  counted ran names (y ∷ es) (e ∷ fs) so_far among feet all =
      let adds = named_more ran names e (all e (has_first e fs)) so_far in
      by_first (same e y) ran es fs e y _ _ refl
      (λ is.
      by_names ran names so_far es fs e y is (subst (λ (z : Entry). (n : ℕ) → Contains (footprint z) n ↔ F z n) (sym (same-is e y is)) (feet y (has_first y es))) (meets names (footprint e)) _ _ refl
      (counted (e ∷ ran) (targets e ++ names) es fs adds (more.same_on e y es fs is among) (rest_named footprint y es feet) (rest_named targets e fs all))
      (counted ran names es fs so_far (more.same_on e y es fs is among) (rest_named footprint y es feet) (rest_named targets e fs all)))
      (λ is. let lacks = more.other_is_fresh e y es fs is among in fresh lacks (counted (e ∷ ran) (targets e ++ names) (y ∷ es) fs adds (more.fresh_on e (y ∷ es) fs lacks among) feet (rest_named targets e fs all)))

pub runs_are_counted : (F T : Entry → ℕ → Type 0) → RunsAreCounted F T
runs_are_counted F T old new footprint targets among feet all = counted F T footprint targets [] [] old new (λ n. (λ h. item_none n h, λ h. has_none h.0 h.1)) among feet all
