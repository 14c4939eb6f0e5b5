-- Searches in a set: the place of an entry, the last entry of a site, and the last of all.
use Rattle.std.proofs.Common.{◌≡◌, ℕ, zero, suc, ◌-◌, ◌<◌, ◌≤◌, Bool, true, false, ◌||◌, cond, if◌then◌else◌, eqb, ltb, List, [], ◌∷◌, length, get_or, max, reverse, Option, Some, None, refl, sym, ap, subst, ◌∙◌, inl, inr, arith}
use mathlib.Core.Bool.{false≢true}
use Rattle.std.specs.List.{slice_get, find}
use Rattle.std.specs.List.Sorted.{IsPartitionedBy, IsPartitionPoint}
use Rattle.std.specs.Option.{option_map_or, option_or}
use Rattle.std.proofs.lemmas.Bool.Decides.{nat_tests}
use Rattle.std.proofs.lemmas.Grind.{reverse_onto}
use Rattle.std.proofs.lemmas.List.Folds.{find-append}
use Rattle.std.proofs.lemmas.List.Sorted.{list_any-IsPermutation, IsPermutation-reverse}
use Rattle.std.proofs.lemmas.Bool.{cases_Bool, or_right}
use Rattle.td_stamps.specs.declared.entry.Entry.{Entry}
use Rattle.td_stamps.specs.Entries.{same, before}
use Rattle.td_stamps.specs.Sets.{has, apart, is_set, ascends}
use Rattle.td_stamps.specs.Checks.{last_seq, last_clock}
use Rattle.td_stamps.proofs.EntryLemmas.{same-is, same-refl, before-trans, before-irrefl}
use Rattle.td_stamps.proofs.SetLemmas.{first_holds, rest_holds}
use Rattle.td_stamps.proofs.Places.{set_ascends, all_at}
use Rattle.td_stamps.proofs.Merges.{head_has, all_has}
use Rattle.td_stamps.proofs.Sorting.{place_of}

-- by index, the earlier comes before the later
ascends_at : (xs : List Entry) → ascends xs ≡ true → (i j : ℕ) (d : Entry) → i < j → j < length xs → before (get_or xs i d) (get_or xs j d) ≡ true
ascends_at [] up i j d lt within = absurd (omega arith)
ascends_at (x ∷ xs) up i zero d lt within = absurd (omega arith)
ascends_at (x ∷ xs) up zero (suc j) d lt within = all_at (before x) xs (first_holds _ _ up) j d (omega arith)
ascends_at (x ∷ xs) up (suc i) (suc j) d lt within = ascends_at xs (rest_holds _ _ up) i j d (omega arith) (omega arith)

-- those before an entry stand in front
pub in_front : (xs : List Entry) (e : Entry) → is_set xs ≡ true → IsPartitionedBy (λ x. before x e) xs
in_front xs e set i j d le within first = elim (cases_Bool (ltb i j)) [
  | inl less ↦ before-trans (get_or xs i d) (get_or xs j d) e (ascends_at xs (set_ascends xs set) i j d (grind (arith, nat_tests)) within) first
  | inr not_less ↦ let here : i ≡ j = grind (arith, nat_tests) in subst (λ n. before (get_or xs n d) e ≡ true) (sym here) first
]

-- the first that is not before an entry is that entry, where it is in the set at all
module _ (xs : List Entry) (e : Entry) (i : ℕ) (set : is_set xs ≡ true) (point : IsPartitionPoint (λ x. before x e ≡ true) (λ x. before x e ≡ false) xs i) where
  not_in_front : has xs e ≡ true → (j : ℕ) × (i ≤ j) × (j < length xs) × (get_or xs j e ≡ e)
  not_in_front in' =
      let place = place_of xs e in' in
      elim (cases_Bool (ltb place.0 i)) [
        | inl less ↦ absurd (false≢true (sym (before-irrefl e) ∙ subst (λ (v : Entry). before v e ≡ true) (place.2 e) (point.0 place.0 e (omega arith) (grind (arith, nat_tests)))))
        | inr not_less ↦ (place.0, grind (arith, nat_tests), place.1, place.2 e)
      ]

  pub same_at_point : (x : Entry) → i < length xs → x ≡ get_or xs i e → same x e ≡ has xs e
  same_at_point x within at = elim (cases_Bool (has xs e)) [
    | inl in' ↦
        let later = not_in_front in' in
        elim (cases_Bool (ltb i later.0)) [
          | inl less ↦ absurd (false≢true (sym (point.1 i e (omega arith) within) ∙ subst (λ (v : Entry). before (get_or xs i e) v ≡ true) later.3 (ascends_at xs (set_ascends xs set) i later.0 e (grind (arith, nat_tests)) later.2)))
          | inr not_less ↦
              let here : i ≡ later.0 = let le = later.1 in grind (arith, nat_tests) in
              let is : x ≡ e = at ∙ subst (λ n. get_or xs n e ≡ e) (sym here) later.3 in
              subst (λ (v : Entry). same v e ≡ true) (sym is) (same-refl e) ∙ sym in'
        ]
    | inr out ↦ elim (cases_Bool (same x e)) [
      | inl is ↦ absurd (false≢true (sym out ∙ subst (λ (v : Entry). has xs v ≡ true) (sym at ∙ same-is x e is) (held_at xs i e within)))
      | inr differs ↦ differs ∙ sym out
    ]
  ]
    where
      held_at : (ys : List Entry) (k : ℕ) (d : Entry) → k < length ys → has ys (get_or ys k d) ≡ true
      held_at [] k d lt = absurd (omega arith)
      held_at (y ∷ ys) zero d lt = head_has y ys
      held_at (y ∷ ys) (suc k) d lt = elim (same (get_or ys k d) y) as (λ b. (b || has ys (get_or ys k d)) ≡ true) [ true ↦ refl | false ↦ held_at ys k d (omega arith) ]

  pub absent_past_end : length xs ≤ i → has xs e ≡ false
  absent_past_end past = elim (cases_Bool (has xs e)) [
    | inl in' ↦ let later = not_in_front in' in absurd (omega (arith, later.1, later.2))
    | inr out ↦ out
  ]

-- what a search finds passes its test, and is there
found : (p : Entry → Bool) (xs : List Entry) (y : Entry) → find p xs ≡ Some y → (p y ≡ true) × (has xs y ≡ true)
found p [] y at = absurd (none_some at)
  where
    none_some : None ≡ Some y → ⊥
    none_some h = cc
found p (x ∷ xs) y at = elim (p x) as (λ b. p x ≡ b → cond b (Some x) (find p xs) ≡ Some y → (p y ≡ true) × ((same y x || has xs y) ≡ true)) [
  | true ↦ λ passes h. let is : x ≡ y = cc in (subst (λ (v : Entry). p v ≡ true) is passes, subst (λ (v : Entry). (same v x || has xs v) ≡ true) is (head_has x xs))
  | false ↦ λ _ h. let rest = found p xs y h in (rest.0, or_right _ _ rest.1)
] refl at

-- the last of a site's entries has its greatest number
pub last_seq_found : (site : ℕ) (xs : List Entry) → is_set xs ≡ true → option_map_or (λ e. e.seq) (find (λ e. eqb e.site site) (reverse xs)) 0 ≡ last_seq site xs
last_seq_found site [] set = refl
last_seq_found site (x ∷ xs) set =
    let p : Entry → Bool = λ e. eqb e.site site in
    ap (λ l. option_map_or (λ e. e.seq) (find p l) 0) (reverse_onto xs x []) ∙ ap (λ o. option_map_or (λ e. e.seq) o 0) (find-append p (reverse xs) (x ∷ []))
    ∙ step (find p (reverse xs)) refl (last_seq_found site xs (rest_holds _ _ set))
  where
    higher : (y : Entry) → x.site ≡ y.site → apart x y ≡ true → x.seq ≤ y.seq
    higher y at apart_is = grind (arith, nat_tests)

    step : (o : Option Entry) → find (λ e. eqb e.site site) (reverse xs) ≡ o → option_map_or (λ e. e.seq) (find (λ e. eqb e.site site) (reverse xs)) 0 ≡ last_seq site xs
        → option_map_or (λ e. e.seq) (option_or o (cond (eqb x.site site) (Some x) None)) 0 ≡ (if eqb x.site site then max x.seq (last_seq site xs) else last_seq site xs)
    step None at rest =
        let none : 0 ≡ last_seq site xs = ap (λ o. option_map_or (λ (e : Entry). e.seq) o 0) (sym at) ∙ rest in
        elim (eqb x.site site) as (λ b. option_map_or (λ e. e.seq) (cond b (Some x) None) 0 ≡ (if b then max x.seq (last_seq site xs) else last_seq site xs)) [ true ↦ omega arith | false ↦ none ]
    step (Some y) at rest =
        let top : y.seq ≡ last_seq site xs = ap (λ o. option_map_or (λ (e : Entry). e.seq) o 0) (sym at) ∙ rest in
        let there = found (λ e. eqb e.site site) (reverse xs) y at in
        let in' : has xs y ≡ true = list_any-IsPermutation (same y) xs (reverse xs) (IsPermutation-reverse xs) ∙ there.1 in
        let apart_is : apart x y ≡ true = all_has (apart x) xs y (first_holds _ _ set) in' in
        elim (eqb x.site site) as (λ b. eqb x.site site ≡ b → y.seq ≡ (if b then max x.seq (last_seq site xs) else last_seq site xs)) [
          | true ↦ λ is. let is_y = there.0 in let here : x.site ≡ y.site = grind (arith, nat_tests) in let le = higher y here apart_is in omega arith
          | false ↦ λ _. top
        ] refl

-- the last of all has the greatest clock
pub last_clock_found : (xs : List Entry) → is_set xs ≡ true → option_map_or (λ e. e.clock) (slice_get xs (length xs - 1)) 0 ≡ last_clock xs
last_clock_found [] set = refl
last_clock_found (x ∷ []) set = omega arith
last_clock_found (x ∷ y ∷ ys) set =
    ap (λ n. option_map_or (λ e. e.clock) (slice_get (x ∷ y ∷ ys) n) 0) (let q : length (x ∷ y ∷ ys) - 1 ≡ suc (length (y ∷ ys) - 1) = omega arith in q)
    ∙ last_clock_found (y ∷ ys) (rest_holds _ _ set)
    ∙ (let first : before x y ≡ true = first_holds _ _ (first_holds _ _ (first_holds _ _ set)) in
    let less : x.clock ≤ y.clock = grind (arith, nat_tests) in
    let most : last_clock (y ∷ ys) ≡ max x.clock (last_clock (y ∷ ys)) = omega arith in most)
