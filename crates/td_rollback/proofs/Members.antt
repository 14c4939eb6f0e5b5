-- Which entries a list has, and which numbers.
use Rattle.std.proofs.Common.{◌≡◌, ◌<◌, ◌≤◌, ◌+◌, ◌||◌, ◌↔◌, ◌⊎◌, inl, inr, ⊎_elim, ℕ, zero, suc, true, List, [], ◌∷◌, ◌++◌, drop, get_or, length, take, refl, ap, sym, subst, ◌∙◌, arith}
use mathlib.Core.Bool.{false≢true}
use Rattle.std.specs.List.{Contains}
use Rattle.std.proofs.lemmas.Bool.{or_cases, or_right}
use Rattle.std.proofs.lemmas.List.{take_more}
use Rattle.std.proofs.lemmas.List.Elements.{Contains-append_left, Contains-append_right, Contains-append_cases}
use Rattle.std.proofs.lemmas.List.Folds.{list_any-append, list_any_at}
use Rattle.td_stamps.specs.declared.entry.Entry.{Entry}
use Rattle.td_stamps.specs.Entries.{same}
use Rattle.td_stamps.specs.Sets.{has}
use Rattle.td_stamps.proofs.EntryLemmas.{same-is, same-refl}
use Rattle.td_rollback.specs.Touched.{IsTargetOf}

pub has_first : (e : Entry) (es : List Entry) → has (e ∷ es) e ≡ true
has_first e es = ap (λ b. b || has es e) (same-refl e)

pub has_later : (e f : Entry) (es : List Entry) → has es f ≡ true → has (e ∷ es) f ≡ true
has_later e f es h = or_right (same f e) (has es f) h

pub has_cases : (e f : Entry) (es : List Entry) → has (e ∷ es) f ≡ true → (f ≡ e) ⊎ (has es f ≡ true)
has_cases e f es h = ⊎_elim (λ is. inl (same-is f e is)) (λ later. inr later) (or_cases (same f e) (has es f) h)

pub has_none : {P : Type 0} (f : Entry) → has [] f ≡ true → P
has_none f h = absurd (false≢true h)

-- by places
pub has_at : (es : List Entry) (i : ℕ) (e : Entry) → i < length es → e ≡ get_or es i e → has es e ≡ true
has_at es i e lt is = list_any_at (same e) es i e lt (subst (λ (f : Entry). same e f ≡ true) is (same-refl e))

pub has_behind : (k : ℕ) (es : List Entry) (i : ℕ) (x : Entry) → k ≤ i → i < length es → has (drop k es) (get_or es i x) ≡ true
has_behind zero es i x le lt = list_any_at (same (get_or es i x)) es i x lt (same-refl (get_or es i x))
has_behind (suc k) [] i x le lt = absurd (omega (arith, lt))
has_behind (suc k) (e ∷ es) zero x le lt = absurd (omega (arith, le))
has_behind (suc k) (e ∷ es) (suc i) x le lt = has_behind k es i x (omega (arith, le)) (omega (arith, lt))

pub has_drop : (k : ℕ) (es : List Entry) (e : Entry) → has (drop k es) e ≡ true → has es e ≡ true
has_drop zero es e h = h
has_drop (suc k) [] e h = h
has_drop (suc k) (x ∷ es) e h = has_later x e es (has_drop k es e h)

pub front_cases : (es : List Entry) (i : ℕ) (e f : Entry) → i < length es → e ≡ get_or es i e → has (take (i + 1) es) f ≡ true → (f ≡ e) ⊎ (has (take i es) f ≡ true)
front_cases es i e f lt is h =
    let front : (has (take i es) f || has (get_or es i e ∷ []) f) ≡ true = sym (list_any-append (same f) (take i es) (get_or es i e ∷ [])) ∙ subst (λ (l : List Entry). has l f ≡ true) (take_more es i e lt) h in
    ⊎_elim (λ before. inr before) (λ last. ⊎_elim (λ one. inl (one ∙ sym is)) (λ none. has_none f none) (has_cases (get_or es i e) f [] last)) (or_cases (has (take i es) f) (has (get_or es i e ∷ []) f) front)

-- items
pub item_first : {X : Type 0} (x : X) (xs : List X) → Contains (x ∷ xs) x
item_first x xs = (0, omega arith, refl)

pub item_later : {X : Type 0} (x y : X) (xs : List X) → Contains xs y → Contains (x ∷ xs) y
item_later x y xs h = Contains-append_right (x ∷ []) xs y h

pub item_cases : {X : Type 0} (x y : X) (xs : List X) → Contains (x ∷ xs) y → (x ≡ y) ⊎ Contains xs y
item_cases x y xs (zero, lt, is) = inl is
item_cases x y xs (suc k, lt, is) = inr (k, omega (arith, lt), is)

pub item_none : {X P : Type 0} (y : X) → Contains [] y → P
item_none y h = absurd (omega (arith, h.1))

-- one number more, whether it was there or not
module _ (ps : List ℕ) (i p : ℕ) (lt : i < length ps) (is : p ≡ get_or ps i 0) where
  front_has : (n : ℕ) → Contains (take (i + 1) ps) n ↔ ((n ≡ p) ⊎ Contains (take i ps) n)
  front_has n =
      let more : take (i + 1) ps ≡ take i ps ++ p ∷ [] = take_more ps i 0 lt ∙ ap (λ (q : ℕ). take i ps ++ q ∷ []) (sym is) in (
        λ h. ⊎_elim (λ before. inr before) (λ last. ⊎_elim (λ one. inl (sym one)) (λ none. item_none n none) (item_cases p n [] last)) (Contains-append_cases (take i ps) (p ∷ []) n (subst (λ (l : List ℕ). Contains l n) more h)),
        λ h. subst (λ (l : List ℕ). Contains l n) (sym more) (⊎_elim (λ one. Contains-append_right (take i ps) (p ∷ []) n (subst (λ (m : ℕ). Contains (p ∷ []) m) (sym one) (item_first p []))) (λ before. Contains-append_left (take i ps) (p ∷ []) n before) h),
      )

  pub number_pushed : (names old now : List ℕ) → ((n : ℕ) → Contains names n ↔ (Contains (take i ps) n ⊎ Contains old n)) → now ≡ names ++ p ∷ [] → (n : ℕ) → Contains now n ↔ (Contains (take (i + 1) ps) n ⊎ Contains old n)
  number_pushed names old now so_far push n = (
    λ h. ⊎_elim
        (λ there. ⊎_elim (λ before. inl ((front_has n).1 (inr before))) (λ was. inr was) ((so_far n).0 there))
        (λ last. ⊎_elim (λ one. inl ((front_has n).1 (inl (sym one)))) (λ none. item_none n none) (item_cases p n [] last))
        (Contains-append_cases names (p ∷ []) n (subst (λ (l : List ℕ). Contains l n) push h)),
    λ h. subst (λ (l : List ℕ). Contains l n) (sym push) (⊎_elim
        (λ front. ⊎_elim (λ one. Contains-append_right names (p ∷ []) n (subst (λ (m : ℕ). Contains (p ∷ []) m) (sym one) (item_first p []))) (λ before. Contains-append_left names (p ∷ []) n ((so_far n).1 (inl before))) ((front_has n).0 front))
        (λ was. Contains-append_left names (p ∷ []) n ((so_far n).1 (inr was)))
        h),
  )

  pub number_there : (names old : List ℕ) → ((n : ℕ) → Contains names n ↔ (Contains (take i ps) n ⊎ Contains old n)) → Contains names p → (n : ℕ) → Contains names n ↔ (Contains (take (i + 1) ps) n ⊎ Contains old n)
  number_there names old so_far there n = (
    λ h. ⊎_elim (λ before. inl ((front_has n).1 (inr before))) (λ was. inr was) ((so_far n).0 h),
    λ h. ⊎_elim
        (λ front. ⊎_elim (λ one. subst (Contains names) (sym one) there) (λ before. (so_far n).1 (inl before)) ((front_has n).0 front))
        (λ was. (so_far n).1 (inr was))
        h,
  )

-- where the names have all targets of the entries in front, they have those of one entry more
pub targets_more : (Target : Entry → ℕ → Type 0) (es : List Entry) (i : ℕ) (e : Entry) → i < length es → e ≡ get_or es i e → (places names now : List ℕ) → ((n : ℕ) → Target e n → Contains places n) → ((n : ℕ) → IsTargetOf Target (take i es) n → Contains names n)
    → ((n : ℕ) → Contains now n ↔ (Contains places n ⊎ Contains names n)) → (n : ℕ) → IsTargetOf Target (take (i + 1) es) n → Contains now n
targets_more Target es i e lt is places names now has_these has_those adds n h =
    (adds n).1 (⊎_elim (λ one. inl (has_these n (subst (λ (f : Entry). Target f n) one h.2))) (λ before. inr (has_those n (h.0, before, h.2))) (front_cases es i e h.0 lt is h.1))
