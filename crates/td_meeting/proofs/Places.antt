-- The sites of a version vector, each with its number, have a place in a greeting, and are fewer than 65,536.
use Rattle.std.proofs.Common.{◌≡◌, ◌<◌, ◌≤◌, ◌^◌, ◌+◌, ℕ, Bool, true, false, cond, eqb, ltb, ◌&&◌, T, inl, inr, List, [], ◌∷◌, length, Some, refl, sym, ap, ◌∙◌, subst, arith}
use mathlib.Core.Bool.{false≢true}
use Rattle.std.specs.Cmp.{unsigned_tied}
use Rattle.std.specs.Ordering.{nat_cmp, eq_by_cmp}
use Rattle.std.specs.FinMap as by_site
use Rattle.std.specs.FinMap.Entries.{find, is_sorted, below_all}
use Rattle.std.specs.List.{AllByRecursion, list_all}
use Rattle.std.proofs.lemmas.Bool.{cases_Bool, or_cases, eq-eqb, ne_eqb}
use Rattle.std.proofs.lemmas.Bool.Decides.{nat_tests}
use Rattle.td_stamps.specs.declared.entry.Entry.{Entry}
use Rattle.td_stamps.specs.Entries.{in_range}
use Rattle.td_stamps.specs.Vectors.{VersionVector, IsVector, has_number, number_of, sites_fit}
use Rattle.td_stamps.proofs.SetLemmas.{first_holds, rest_holds}
use Rattle.td_frames.specs.Spelling.{IsPlace}
use Rattle.td_frames.proofs.GreetedAgain.{Rising, rising, rising_from}

entry_range : (x : Entry) (site k : ℕ) → in_range x ≡ true → (eqb x.site site && eqb x.seq k) ≡ true → (1 ≤ site) × (k ≤ 1000000000)
entry_range x site k range here = (grind (arith, nat_tests), grind (arith, nat_tests))

-- a number that is held is in range
in_ranges : (xs : List Entry) (site k : ℕ) → list_all in_range xs ≡ true → has_number xs site k ≡ true → (1 ≤ site) × (k ≤ 1000000000)
in_ranges [] site k all here = absurd (false≢true here)
in_ranges (x ∷ xs) site k all here =
    elim (or_cases _ _ here) [
      | inl is ↦ entry_range x site k (first_holds _ _ all) is
      | inr later ↦ in_ranges xs site k (rest_holds _ _ all) later
    ]

-- a site that is found comes after the last one
found_after : (last : ℕ) (ps : List (ℕ × ℕ)) (q n : ℕ) → Rising last ps → find nat_cmp q ps ≡ Some n → last < q
found_after last [] q n up e = absurd cc
found_after last (p ∷ ps) q n up e = elim (cases_Bool (eq_by_cmp nat_cmp q p.0)) [
  | inl same ↦ let is : eqb q p.0 ≡ true = sym (unsigned_tied q p.0) ∙ same in let first = up.0 in grind (arith, nat_tests)
  | inr other ↦
      let rest : find nat_cmp q ps ≡ Some n = ap (λ (b : Bool). cond b (Some p.1) (find nat_cmp q ps)) (sym other) ∙ e in
      let behind = found_after p.0 ps q n up.1 rest in
      let first = up.0 in
      omega (arith, behind, first)
]

found_first : (p : ℕ × ℕ) (ps : List (ℕ × ℕ)) → find nat_cmp p.0 (p ∷ ps) ≡ Some p.1
found_first p ps = ap (λ (b : Bool). cond b (Some p.1) (find nat_cmp p.0 ps)) (unsigned_tied p.0 p.0 ∙ eq-eqb p.0 p.0 refl)

found_later : (p : ℕ × ℕ) (ps : List (ℕ × ℕ)) (q n : ℕ) → Rising p.0 ps → find nat_cmp q ps ≡ Some n → find nat_cmp q (p ∷ ps) ≡ Some n
found_later p ps q n up e =
    let behind = found_after p.0 ps q n up e in
    ap (λ (b : Bool). cond b (Some p.1) (find nat_cmp q ps)) (unsigned_tied q p.0 ∙ ne_eqb q p.0 (λ (is : q ≡ p.0). absurd (omega (arith, behind, is)))) ∙ e

rest_sorted : (a b : Bool) → T (a && b) → T b
rest_sorted true b h = h
rest_sorted false b h = absurd h

-- what holds of each site that is found, with its number
each_found : (P : ℕ → ℕ → Type 0) (ps : List (ℕ × ℕ)) → T (is_sorted nat_cmp ps) → ((q n : ℕ) → find nat_cmp q ps ≡ Some n → P q n) → AllByRecursion (λ p. P p.0 p.1) ps
each_found P [] up f = tt
each_found P (p ∷ ps) up f = (
  f p.0 p.1 (found_first p ps),
  each_found P ps (rest_sorted (below_all nat_cmp p.0 ps) (is_sorted nat_cmp ps) up) (λ q n e. f q n (found_later p ps q n (rising p ps up) e)),
)

-- the numbers of a vector are in range
abbrev pub InRange : ℕ → ℕ → Type 0
InRange q n = (1 ≤ q) × (1 ≤ n) × (n ≤ 1000000000)

positive : (n : ℕ) → (n ≡ 0 → ⊥) → 1 ≤ n
positive n some = elim (cases_Bool (eqb n 0)) [
  | inl is ↦ absurd (some (grind (arith, nat_tests)))
  | inr not_it ↦ grind (arith, nat_tests)
]

number_in_range : (es : List Entry) (v : VersionVector) → IsVector es v → list_all in_range es ≡ true → (q n : ℕ) → find nat_cmp q (by_site.entries v) ≡ Some n → InRange q n
number_in_range es v is all q n e =
    let there : by_site.get v q ≡ Some n = by_site.get-entries v q ∙ e in
    let number : number_of v q ≡ n = cc in
    let some : 1 ≤ n = positive n (λ (z : n ≡ 0). is.positive q (there ∙ ap (λ k. Some k) z)) in
    let held = in_ranges es q n all (subst (λ k. has_number es q k ≡ true) number ((is.numbers q).all (number_of v q) (subst (λ k. 1 ≤ k) (sym number) some) (omega arith))) in
    (held.0, some, held.1)

both_all : (ps : List (ℕ × ℕ)) → AllByRecursion (λ p. InRange p.0 p.1) ps → sites_fit ps ≡ true → AllByRecursion IsPlace ps
both_all [] in' fit = tt
both_all (p ∷ ps) in' fit =
    let first = in'.0 in
    let here = first_holds (ltb p.0 65536) (sites_fit ps) fit in
    let low : p.0 < 65536 = grind (arith, nat_tests) in
    ((first.0, low, first.1, first.2), both_all ps in'.1 (rest_holds (ltb p.0 65536) (sites_fit ps) fit))

pub are_places : (es : List Entry) (v : VersionVector) → IsVector es v → list_all in_range es ≡ true → sites_fit (by_site.entries v) ≡ true → AllByRecursion IsPlace (by_site.entries v)
are_places es v is all fit = both_all (by_site.entries v) (each_found InRange (by_site.entries v) (by_site.entries_sorted v) (number_in_range es v is all)) fit

few_after : (last : ℕ) (ps : List (ℕ × ℕ)) → last < 2 ^ 16 → Rising last ps → AllByRecursion IsPlace ps → last + length ps < 2 ^ 16
few_after last [] low up all = omega (arith, low)
few_after last (p ∷ ps) low up all =
    let rest = few_after p.0 ps all.0.1 up.1 all.1 in
    let first = up.0 in
    omega (arith, rest, first)

pub few_places : (v : VersionVector) → AllByRecursion IsPlace (by_site.entries v) → length (by_site.entries v) < 2 ^ 16
few_places v all = let few = few_after 0 (by_site.entries v) (omega arith) (rising_from (by_site.entries v) (by_site.entries_sorted v) all) all in omega (arith, few)
