-- A set's version vector, kept by a walk in stamp order: there a site's sequence numbers ascend, so nothing later fills
-- a gap.
use Rattle.std.proofs.Common.{◌≡◌, ◌≢◌, ℕ, suc, ◌+◌, ◌-◌, ◌<◌, ◌≤◌, Bool, true, false, ◌&&◌, ◌||◌, cond, eqb, leb, List, [], ◌∷◌, ◌++◌, length, get_or, take, drop, Option, Some, None, unwrap_or, refl, sym, ap, subst, ◌∙◌, inl, inr, arith}
use mathlib.Core.Bool.{false≢true}
use Rattle.std.specs.Cmp.{nat_cmp_total}
use Rattle.std.specs.FinMap as map
use Rattle.std.specs.List.{filter, list_all}
use Rattle.std.specs.Ordering.{nat_cmp}
use Rattle.std.proofs.lemmas.Bool.{and_from, cases_Bool, or_cases, or_left, or_right}
use Rattle.std.proofs.lemmas.Bool.Decides.{nat_tests}
use Rattle.std.proofs.lemmas.List.{take_more}
use Rattle.std.proofs.lemmas.List.Folds.{list_all-append, list_any-append}
use Rattle.std.proofs.Math.Seq.{split_at}
use Rattle.td_stamps.specs.declared.entry.Entry.{Entry}
use Rattle.td_stamps.specs.Entries.{same, clash, in_range}
use Rattle.td_stamps.specs.Sets.{has, apart, is_set, NoClash}
use Rattle.td_stamps.specs.Vectors.{VersionVector, has_number, HasAll, IsGreatest, number_of, IsVector, lacks}
use Rattle.td_stamps.specs.Laws.{AfterCompletes, CountedStays, VectorIsOne}
use Rattle.td_stamps.proofs.EntryLemmas.{same-is}
use Rattle.td_stamps.proofs.SetLemmas.{first_holds, rest_holds, or_false}
use Rattle.td_stamps.proofs.Places.{all_at}
use Rattle.td_stamps.proofs.Merges.{all_has, head_has, has-append_left, has-append_right, merged, same_set, NoClash-fewer}
use Rattle.td_stamps.proofs.Sorting.{at_number}

-- one entry more
number_push : (xs : List Entry) (e : Entry) (site k : ℕ) → has_number (xs ++ e ∷ []) site k ≡ (has_number xs site k || (eqb e.site site && eqb e.seq k))
number_push xs e site k = list_any-append _ xs (e ∷ []) ∙ ap (λ b. has_number xs site k || b) (or_false (eqb e.site site && eqb e.seq k))

-- the next number too
next_too : (xs : List Entry) (site n : ℕ) → HasAll xs site n → has_number xs site (n + 1) ≡ true → HasAll xs site (n + 1)
next_too xs site n all here k low high = elim (cases_Bool (leb k n)) [
  | inl within ↦ all k low (grind (arith, nat_tests))
  | inr over ↦ let last : n + 1 ≡ k = grind (arith, nat_tests) in subst (λ j. has_number xs site j ≡ true) last here
]

-- an entry that is not the next number of the site changes nothing
passes : (xs : List Entry) (e : Entry) (site n : ℕ) → (eqb e.site site && eqb e.seq (n + 1)) ≡ false → IsGreatest xs site n → IsGreatest (xs ++ e ∷ []) site n
passes xs e site n other so = record {
  all = λ k low high. number_push xs e site k ∙ or_left _ _ (so.all k low high);
  greatest = λ m all. elim (cases_Bool (leb m n)) [
    | inl within ↦ grind (arith, nat_tests)
    | inr over ↦
        let more : n + 1 ≤ m = grind (arith, nat_tests) in
        let here : has_number xs site (n + 1) ≡ true = sym (or_false _) ∙ ap (λ b. has_number xs site (n + 1) || b) (sym other) ∙ sym (number_push xs e site (n + 1)) ∙ all (n + 1) (omega arith) more in
        let high = so.greatest (n + 1) (next_too xs site n so.all here) in
        absurd (omega arith)
  ];
}

-- a site's numbers before one of its entries are lower
lower : (xs : List Entry) (e : Entry) (k : ℕ) → list_all (λ x. apart x e) xs ≡ true → has_number xs e.site k ≡ true → k < e.seq
lower [] e k all in' = absurd (false≢true in')
lower (x ∷ xs) e k all in' = elim (or_cases _ _ in') [
  | inl here ↦ below (first_holds _ _ all) here
  | inr later ↦ lower xs e k (rest_holds _ _ all) later
]
  where
    below : apart x e ≡ true → (eqb x.site e.site && eqb x.seq k) ≡ true → k < e.seq
    below after here = grind (arith, nat_tests)

-- the next number of its site
counts : (xs : List Entry) (e : Entry) (n : ℕ) → list_all (λ x. apart x e) xs ≡ true → e.seq ≡ n + 1 → IsGreatest xs e.site n → IsGreatest (xs ++ e ∷ []) e.site e.seq
counts xs e n after next so = record {
  all = λ k low high. elim (cases_Bool (leb k n)) [
    | inl within ↦ number_push xs e e.site k ∙ or_left _ _ (so.all k low (grind (arith, nat_tests)))
    | inr over ↦
        let last : e.seq ≡ k = grind (arith, nat_tests) in
        let here : (eqb e.site e.site && eqb e.seq k) ≡ true = grind (arith, nat_tests) in
        number_push xs e e.site k ∙ or_right _ _ here
  ];
  greatest = λ m all. elim (cases_Bool (leb m e.seq)) [
    | inl within ↦ grind (arith, nat_tests)
    | inr over ↦
        let more : e.seq + 1 ≤ m = grind (arith, nat_tests) in
        let other : (eqb e.site e.site && eqb e.seq (e.seq + 1)) ≡ false = grind (arith, nat_tests) in
        let here : has_number xs e.site (e.seq + 1) ≡ true = sym (or_false _) ∙ ap (λ b. has_number xs e.site (e.seq + 1) || b) (sym other) ∙ sym (number_push xs e e.site (e.seq + 1)) ∙ all (e.seq + 1) (omega arith) more in
        let less = lower xs e (e.seq + 1) after here in
        absurd (omega arith)
  ];
}

-- those before an entry of a set
before_it : (xs : List Entry) (e : Entry) (rest : List Entry) → is_set (xs ++ e ∷ rest) ≡ true → list_all (λ x. apart x e) xs ≡ true
before_it [] e rest set = refl
before_it (x ∷ xs) e rest set =
    let all : (list_all (apart x) xs && (apart x e && list_all (apart x) rest)) ≡ true = sym (list_all-append (apart x) xs (e ∷ rest)) ∙ first_holds _ _ set in
    and_from _ _ (first_holds (apart x e) (list_all (apart x) rest) (rest_holds (list_all (apart x) xs) (apart x e && list_all (apart x) rest) all)) (before_it xs e rest (rest_holds _ _ set))

-- a vector with one number more
number_insert : (v : VersionVector) (k n q : ℕ) → map.get (map.insert v k n) q ≡ cond (eqb q k) (Some n) (map.get v q)
number_insert v k n q = map.get-insert nat_cmp_total v k n q ∙ ap (λ b. cond b (Some n) (map.get v q)) (at_number q k)

-- the vector of no entries
pub none_counted : IsVector [] map.empty
none_counted = record {
  numbers = λ site. subst (λ o. IsGreatest [] site (unwrap_or o 0)) (sym (map.get-empty nat_cmp site)) (nothing site);
  positive = λ site is. cc (map.get-empty {X = ℕ} nat_cmp site);
}
  where
    nothing : (site : ℕ) → IsGreatest [] site 0
    nothing site = record {
      all = λ k low high. absurd (omega arith);
      greatest = λ m all. elim (cases_Bool (leb m 0)) [
        | inl within ↦ grind (arith, nat_tests)
        | inr over ↦ let some : 1 ≤ m = grind (arith, nat_tests) in absurd (false≢true (all 1 (omega arith) some))
      ];
    }

-- one step of the walk
module _ (xs : List Entry) (i : ℕ) (e : Entry) (v : VersionVector) (within : i < length xs) (is : e ≡ get_or xs i e) (so : IsVector (take i xs) v) where
  more : take (i + 1) xs ≡ take i xs ++ e ∷ []
  more = take_more xs i e within ∙ ap (λ (x : Entry). take i xs ++ x ∷ []) (sym is)

  pub not_next : (e.seq - 1 ≡ number_of v e.site → ⊥) → 1 ≤ e.seq → IsVector (take (i + 1) xs) v
  not_next other low = subst (λ t. IsVector t v) (sym more) (record {
    numbers = λ site. passes (take i xs) e site (number_of v site) (elim (cases_Bool (eqb e.site site)) [
      | inl here ↦
          let at : e.site ≡ site = grind (arith, nat_tests) in
          let differs : e.seq - 1 ≡ number_of v site → ⊥ = subst (λ q. e.seq - 1 ≡ number_of v q → ⊥) at other in
          second_fails (eqb e.site site) (eqb e.seq (number_of v site + 1)) (elim (cases_Bool (eqb e.seq (number_of v site + 1))) [
            | inl next ↦ absurd (differs (grind (arith, nat_tests)))
            | inr differ ↦ differ
          ])
      | inr elsewhere ↦ ap (λ b. b && eqb e.seq (number_of v site + 1)) elsewhere
    ]) (so.numbers site);
    positive = so.positive;
  })
    where
      second_fails : (a b : Bool) → b ≡ false → (a && b) ≡ false
      second_fails true b fails = fails
      second_fails false b fails = refl

  pub is_next : is_set xs ≡ true → e.seq - 1 ≡ number_of v e.site → 1 ≤ e.seq → IsVector (take (i + 1) xs) (map.insert v e.site e.seq)
  is_next set next low = subst (λ t. IsVector t (map.insert v e.site e.seq)) (sym more) (record {
    numbers = λ site. subst (λ o. IsGreatest (take i xs ++ e ∷ []) site (unwrap_or o 0)) (sym (number_insert v e.site e.seq site)) (
        elim (eqb site e.site) as (λ b. eqb site e.site ≡ b → IsGreatest (take i xs ++ e ∷ []) site (unwrap_or (cond b (Some e.seq) (map.get v site)) 0)) [
          | true ↦ λ here. let at : e.site ≡ site = grind (arith, nat_tests) in subst (λ q. IsGreatest (take i xs ++ e ∷ []) q e.seq) at (counts (take i xs) e (number_of v e.site) after (omega arith) (so.numbers e.site))
          | false ↦ λ elsewhere. let other : eqb e.site site ≡ false = grind (arith, nat_tests) in passes (take i xs) e site (number_of v site) (ap (λ b. b && eqb e.seq (number_of v site + 1)) other) (so.numbers site)
        ] refl);
    positive = λ site none. some (eqb site e.site) (map.get v site) (so.positive site) (sym (number_insert v e.site e.seq site) ∙ none);
  })
    where
      after : list_all (λ x. apart x e) (take i xs) ≡ true
      after = before_it (take i xs) e (drop (suc i) xs) (subst (λ t. is_set t ≡ true) (split_at xs i e within ∙ ap (λ (x : Entry). take i xs ++ x ∷ drop (suc i) xs) (sym is)) set)

      some : (b : Bool) (o : Option ℕ) → o ≢ Some 0 → cond b (Some e.seq) o ≡ Some 0 → ⊥
      some true o rest none = let zero : e.seq ≡ 0 = cc in absurd (omega arith)
      some false o rest none = rest none

-- the number of an entry that is there begins at 1
pub number_from : (xs : List Entry) (i : ℕ) (e : Entry) → i < length xs → e ≡ get_or xs i e → list_all in_range xs ≡ true → 1 ≤ e.seq
number_from xs i e within is all =
    let range : in_range e ≡ true = subst (λ (x : Entry). in_range x ≡ true) (sym is) (all_at in_range xs all i e within) in
    grind (arith, nat_tests)

-- what a filter keeps
kept_was : (p : Entry → Bool) (xs : List Entry) (z : Entry) → has (filter p xs) z ≡ true → has xs z ≡ true
kept_was p [] z in' = in'
kept_was p (x ∷ xs) z in' = elim (p x) as (λ b. has (cond b (x ∷ filter p xs) (filter p xs)) z ≡ true → (same z x || has xs z) ≡ true) [
  | true ↦ λ h. elim (or_cases (same z x) (has (filter p xs) z) h) [
    | inl is ↦ or_left (same z x) (has xs z) is
    | inr later ↦ or_right (same z x) (has xs z) (kept_was p xs z later)
  ]
  | false ↦ λ h. or_right (same z x) (has xs z) (kept_was p xs z h)
] in'

keeps : (p : Entry → Bool) (xs : List Entry) (z : Entry) → p z ≡ true → has xs z ≡ true → has (filter p xs) z ≡ true
keeps p [] z passes in' = in'
keeps p (x ∷ xs) z passes in' = elim (p x) as (λ b. p x ≡ b → has (cond b (x ∷ filter p xs) (filter p xs)) z ≡ true) [
  | true ↦ λ _. elim (or_cases (same z x) (has xs z) in') [
    | inl is ↦ or_left (same z x) (has (filter p xs) z) is
    | inr later ↦ or_right (same z x) (has (filter p xs) z) (keeps p xs z passes later)
  ]
  | false ↦ λ fails. elim (or_cases (same z x) (has xs z) in') [
    | inl is ↦ absurd (false≢true (sym fails ∙ subst (λ (v : Entry). p v ≡ true) (same-is z x is) passes))
    | inr later ↦ keeps p xs z passes later
  ]
] refl

-- where no two clash, a site's number is one entry's
number_held : (xs : List Entry) (z : Entry) → ((x : Entry) → has xs x ≡ true → clash z x ≡ false) → has_number xs z.site z.seq ≡ true → has xs z ≡ true
number_held [] z free in' = absurd (false≢true in')
number_held (x ∷ xs) z free in' = elim (or_cases _ _ in') [
  | inl here ↦ or_left _ _ (one (free x (head_has x xs)) here)
  | inr later ↦ or_right _ _ (number_held xs z (λ y held. free y (or_right _ _ held)) later)
]
  where
    one : clash z x ≡ false → (eqb x.site z.site && eqb x.seq z.seq) ≡ true → same z x ≡ true
    one free here = grind (arith, nat_tests)

pub after_completes : AfterCompletes
after_completes a b v set ranges free counted =
    let p : Entry → Bool = lacks v in
    let fewer : NoClash (a ++ filter p b) = NoClash-fewer (a ++ filter p b) (a ++ b) (λ z h. elim (or_cases _ _ (sym (list_any-append (same z) a (filter p b)) ∙ h)) [
      | inl in_a ↦ has-append_left a b z in_a
      | inr in_b ↦ has-append_right a b z (kept_was p b z in_b)
    ]) free in
    let part = merged a (filter p b) set fewer in
    let whole = merged a b set free in
    same_set _ _ part.set whole.set (λ z. part.members (same z) ∙ alike z ∙ sym (whole.members (same z)))
  where
    counted_held : (z : Entry) → has b z ≡ true → lacks v z ≡ false → has a z ≡ true
    counted_held z in_b old =
        let range : in_range z ≡ true = all_has in_range b z ranges in_b in
        number_held a z (λ x in_a. free z x (has-append_right a b z in_b) (has-append_left a b x in_a)) (counted z.site z.seq (grind (arith, nat_tests)) (grind (arith, nat_tests)))

    alike : (z : Entry) → (has a z || has (filter (lacks v) b) z) ≡ (has a z || has b z)
    alike z = elim (has a z) as (λ s. has a z ≡ s → (s || has (filter (lacks v) b) z) ≡ (s || has b z)) [
      | true ↦ λ _. refl
      | false ↦ λ out. elim (cases_Bool (has b z)) [
        | inl in_b ↦ elim (cases_Bool (lacks v z)) [
          | inl new ↦ keeps (lacks v) b z new in_b ∙ sym in_b
          | inr old ↦ absurd (false≢true (sym out ∙ counted_held z in_b old))
        ]
        | inr not_b ↦ elim (cases_Bool (has (filter (lacks v) b) z)) [
          | inl kept ↦ absurd (false≢true (sym not_b ∙ kept_was (lacks v) b z kept))
          | inr none ↦ none ∙ sym not_b
        ]
      ]
    ] refl

-- a number is an entry's
number_is : (xs : List Entry) (site k : ℕ) → has_number xs site k ≡ true → (x : Entry) × (has xs x ≡ true) × ((eqb x.site site && eqb x.seq k) ≡ true)
number_is [] site k in' = absurd (false≢true in')
number_is (x ∷ xs) site k in' = elim (or_cases _ _ in') [
  | inl here ↦ (x, head_has x xs, here)
  | inr later ↦ let rest = number_is xs site k later in (rest.0, or_right _ _ rest.1, rest.2)
]

number_of_entry : (xs : List Entry) (x : Entry) (site k : ℕ) → has xs x ≡ true → (eqb x.site site && eqb x.seq k) ≡ true → has_number xs site k ≡ true
number_of_entry [] x site k in' here = absurd (false≢true in')
number_of_entry (y ∷ ys) x site k in' here = elim (or_cases _ _ in') [
  | inl is ↦ or_left _ _ (subst (λ (e : Entry). (eqb e.site site && eqb e.seq k) ≡ true) (same-is x y is) here)
  | inr later ↦ or_right _ _ (number_of_entry ys x site k later here)
]

pub counted_stays : CountedStays
counted_stays a b v within counted site k low high =
    let found = number_is a site k (counted site k low high) in
    number_of_entry b found.0 site k (within found.0 found.1) found.2

same_number : (o p : Option ℕ) → o ≢ Some 0 → p ≢ Some 0 → unwrap_or o 0 ≡ unwrap_or p 0 → o ≡ p
same_number None None some_o some_p is = refl
same_number None (Some n) some_o some_p is = absurd (some_p (ap Some (sym is)))
same_number (Some m) None some_o some_p is = absurd (some_o (ap Some is))
same_number (Some m) (Some n) some_o some_p is = ap Some is

pub vector_is_one : VectorIsOne
vector_is_one xs v w is_v is_w = map.same_map nat_cmp_total map.nat_cmp-IsAntisymmetric v w (λ site.
    let m = is_v.numbers site in
    let n = is_w.numbers site in
    let above = m.greatest (number_of w site) n.all in
    let below = n.greatest (number_of v site) m.all in
    same_number (map.get v site) (map.get w site) (is_v.positive site) (is_w.positive site) (omega arith))
