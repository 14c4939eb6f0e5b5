-- What is kept of a set stays true as the set grows.
use Rattle.std.proofs.Common.{◌≡◌, ℕ, Bool, true, false, ◌&&◌, cond, eqb, leb, List, [], ◌∷◌, refl, sym, ap, subst, ◌∙◌, inl, inr, arith}
use mathlib.Core.Bool.{false≢true}
use Rattle.std.specs.List.{filter, list_all}
use Rattle.std.proofs.lemmas.Bool.{and_from, or_cases, or_left, or_right}
use Rattle.std.proofs.lemmas.Bool.Decides.{nat_tests}
use Rattle.std.proofs.lemmas.Map.Views.{any-filter_same}
use Rattle.sha2.specs.Hashers.{Holds256}
use Rattle.td_stamps.specs.declared.entry.Entry.{Entry}
use Rattle.td_stamps.specs.Entries.{clash, in_range, same}
use Rattle.td_stamps.specs.Sets.{apart, has, is_set}
use Rattle.td_stamps.specs.Vectors.{HasAll, has_number}
use Rattle.td_stamps.proofs.EntryLemmas.{same-is}
use Rattle.td_stamps.proofs.SetLemmas.{first_holds, rest_holds}
use Rattle.td_stamps.proofs.Merges.{all_has, head_has, same_set, set_free}
use Rattle.td_frames.specs.Spelling.{entry_frames}
use Rattle.td_frames.specs.declared.version.Version.TheVariants.{Second}
use Rattle.td_comparison.specs.Digests.{first_entries}
use Rattle.td_comparison.specs.Hashed.{IsPrefixOf, PrefixesStay}

-- ---- what a filter keeps

has_filter : (p : Entry → Bool) (xs : List Entry) (z : Entry) → has (filter p xs) z ≡ (p z && has xs z)
has_filter p xs z = any-filter_same (same z) p (p z) (λ x is. ap p (sym (same-is z x is))) xs

all_filter : (q p : Entry → Bool) (xs : List Entry) → list_all q xs ≡ true → list_all q (filter p xs) ≡ true
all_filter q p [] all = refl
all_filter q p (x ∷ xs) all = elim (p x) as (λ b. list_all q (cond b (x ∷ filter p xs) (filter p xs)) ≡ true) [
  | true ↦ and_from _ _ (first_holds _ _ all) (all_filter q p xs (rest_holds _ _ all))
  | false ↦ all_filter q p xs (rest_holds _ _ all)
]

set_filter : (p : Entry → Bool) (xs : List Entry) → is_set xs ≡ true → is_set (filter p xs) ≡ true
set_filter p [] set = refl
set_filter p (x ∷ xs) set = elim (p x) as (λ b. is_set (cond b (x ∷ filter p xs) (filter p xs)) ≡ true) [
  | true ↦ and_from _ _ (all_filter (apart x) p xs (first_holds _ _ set)) (set_filter p xs (rest_holds _ _ set))
  | false ↦ set_filter p xs (rest_holds _ _ set)
]

-- ---- numbers

-- an entry has its number
pub has_own_number : (xs : List Entry) (x : Entry) (site k : ℕ) → has xs x ≡ true → (eqb x.site site && eqb x.seq k) ≡ true → has_number xs site k ≡ true
has_own_number [] x site k in' here = absurd (false≢true in')
has_own_number (y ∷ ys) x site k in' here = elim (or_cases _ _ in') [
  | inl is ↦ or_left _ _ (subst (λ (e : Entry). (eqb e.site site && eqb e.seq k) ≡ true) (same-is x y is) here)
  | inr later ↦ or_right _ _ (has_own_number ys x site k later here)
]

number_stays : (xs ys : List Entry) (site k : ℕ) → ((e : Entry) → has xs e ≡ true → has ys e ≡ true) → has_number xs site k ≡ true → has_number ys site k ≡ true
number_stays [] ys site k within in' = absurd (false≢true in')
number_stays (x ∷ xs) ys site k within in' = elim (or_cases _ _ in') [
  | inl here ↦ has_own_number ys x site k (within x (head_has x xs)) here
  | inr later ↦ number_stays xs ys site k (λ e held. within e (or_right _ _ held)) later
]

-- where no two clash, a site's number is one entry's
number_is_held : (xs : List Entry) (z : Entry) → ((x : Entry) → has xs x ≡ true → clash z x ≡ false) → has_number xs z.site z.seq ≡ true → has xs z ≡ true
number_is_held [] z free in' = absurd (false≢true in')
number_is_held (x ∷ xs) z free in' = elim (or_cases _ _ in') [
  | inl here ↦ or_left _ _ (one (free x (head_has x xs)) here)
  | inr later ↦ or_right _ _ (number_is_held xs z (λ y held. free y (or_right _ _ held)) later)
]
  where
    one : clash z x ≡ false → (eqb x.site z.site && eqb x.seq z.seq) ≡ true → same z x ≡ true
    one free here = grind (arith, nat_tests)

-- ---- a set that grows has the same entries of a site up to a number, if none of these was missing

module _ (xs ys : List Entry) (site n : ℕ) (ranges : list_all in_range ys ≡ true) (set : is_set ys ≡ true) (within : (e : Entry) → has xs e ≡ true → has ys e ≡ true) (all : HasAll xs site n) where
  was_there : (z : Entry) → (eqb z.site site && leb z.seq n) ≡ true → has ys z ≡ true → has xs z ≡ true
  was_there z counted in' =
      let range : in_range z ≡ true = all_has in_range ys z ranges in' in
      let own : z.site ≡ site = grind (arith, nat_tests) in
      let number : has_number xs site z.seq ≡ true = all z.seq (grind (arith, nat_tests)) (grind (arith, nat_tests)) in
      number_is_held xs z (λ x held. set_free ys set z x in' (within x held)) (subst (λ (q : ℕ). has_number xs q z.seq ≡ true) (sym own) number)

  members : (z : Entry) → has (first_entries site n xs) z ≡ has (first_entries site n ys) z
  members z =
      has_filter (λ e. eqb e.site site && leb e.seq n) xs z
      ∙ alike (eqb z.site site && leb z.seq n) (has xs z) (has ys z) (was_there z) (within z)
      ∙ sym (has_filter (λ e. eqb e.site site && leb e.seq n) ys z)
    where
      alike : (p a b : Bool) → (p ≡ true → b ≡ true → a ≡ true) → (a ≡ true → b ≡ true) → (p && a) ≡ (p && b)
      alike false a b back on = refl
      alike true true b back on = sym (on refl)
      alike true false true back on = back refl refl
      alike true false false back on = refl

  pub same_first : is_set xs ≡ true → first_entries site n xs ≡ first_entries site n ys
  same_first was_set = same_set (first_entries site n xs) (first_entries site n ys) (set_filter (λ e. eqb e.site site && leb e.seq n) xs was_set)
      (set_filter (λ e. eqb e.site site && leb e.seq n) ys set) members

pub prefixes_stay : PrefixesStay
prefixes_stay xs ys was_set set ranges within known true_before site p found =
    let before : IsPrefixOf xs site p = true_before site p found in
    record {
      all = λ k low high. number_stays xs ys site k within (before.all k low high);
      taken = subst (λ (l : List Entry). Holds256 p.hasher (entry_frames Second l)) (same_first xs ys site p.number ranges set within before.all was_set) before.taken;
    }
