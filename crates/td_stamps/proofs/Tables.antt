-- The numbers of a vector in a list, each at its site's place.
use Rattle.std.proofs.Common.{◌≡◌, ◌≢◌, ℕ, zero, suc, ◌+◌, ◌-◌, ◌<◌, ◌≤◌, Bool, true, false, ◌&&◌, ◌||◌, cond, eqb, ltb, List, [], ◌∷◌, length, get_or, take, Option, Some, None, unwrap_or, is_some, refl, sym, ap, subst, ◌∙◌, inl, inr, arith}
use mathlib.Core.Bool.{false≢true}
use Rattle.std.specs.Cmp.{nat_cmp_total}
use Rattle.std.specs.FinMap as map
use Rattle.std.specs.List.{list_all}
use Rattle.std.proofs.lemmas.Bool.{cases_Bool}
use Rattle.std.proofs.lemmas.Bool.Decides.{nat_tests}
use Rattle.td_stamps.specs.declared.entry.Entry.{Entry}
use Rattle.td_stamps.specs.Entries.{in_range}
use Rattle.td_stamps.specs.Sets.{is_set}
use Rattle.td_stamps.specs.Vectors.{VersionVector, has_number, IsGreatest, IsVector, number_of}
use Rattle.td_stamps.specs.ForProofs.{AreNumbers, nonzero}
use Rattle.td_stamps.proofs.SetLemmas.{first_holds, rest_holds}
use Rattle.td_stamps.proofs.Gaps.{is_next, none_counted, not_next}
use Rattle.std.specs.Ordering.{nat_cmp}
use Rattle.td_stamps.proofs.Sorting.{at_number}

number_inserted : (v : VersionVector) (k n q : ℕ) → map.get (map.insert v k n) q ≡ cond (eqb q k) (Some n) (map.get v q)
number_inserted v k n q = map.get-insert nat_cmp_total v k n q ∙ ap (λ b. cond b (Some n) (map.get v q)) (at_number q k)

-- ---- a walk over a set

pub no_numbers : (ns : List ℕ) → ns ≡ [] → AreNumbers [] ns
no_numbers ns is = record {
  vector = map.empty;
  is = none_counted;
  at = λ site. ap (λ (o : Option ℕ). unwrap_or o 0) (map.get-empty nat_cmp site) ∙ sym (ap (λ (l : List ℕ). get_or l site 0) is);
}

module _ (xs : List Entry) (i : ℕ) (e : Entry) (ns : List ℕ) (within : i < length xs) (is : e ≡ get_or xs i e) (low : 1 ≤ e.seq) (so : AreNumbers (take i xs) ns) where
  pub not_next_number : (e.seq - 1 ≡ get_or ns e.site 0 → ⊥) → AreNumbers (take (i + 1) xs) ns
  not_next_number other = record { vector = so.vector; is = not_next xs i e so.vector within is so.is (λ next. other (next ∙ so.at e.site)) low; at = so.at }

  pub next_number : is_set xs ≡ true → e.seq - 1 ≡ get_or ns e.site 0 → (ms : List ℕ) → ((q : ℕ) → get_or ms q 0 ≡ cond (eqb e.site q) e.seq (get_or ns q 0)) → AreNumbers (take (i + 1) xs) ms
  next_number set next ms step = record {
    vector = map.insert so.vector e.site e.seq;
    is = is_next xs i e so.vector within is so.is set (next ∙ sym (so.at e.site)) low;
    at = λ q. ap (λ (o : Option ℕ). unwrap_or o 0) (number_inserted so.vector e.site e.seq q) ∙ alike q (eqb q e.site) refl ∙ sym (step q);
  }
    where
      alike : (q : ℕ) (b : Bool) → eqb q e.site ≡ b → unwrap_or (cond b (Some e.seq) (map.get so.vector q)) 0 ≡ cond (eqb e.site q) e.seq (get_or ns q 0)
      alike q true here = let same : eqb e.site q ≡ true = grind (arith, nat_tests) in sym (ap (λ (t : Bool). cond t e.seq (get_or ns q 0)) same)
      alike q false other = let differs : eqb e.site q ≡ false = grind (arith, nat_tests) in so.at q ∙ sym (ap (λ (t : Bool). cond t e.seq (get_or ns q 0)) differs)

-- ---- the vector of a list of numbers

pub none_before : (ns : List ℕ) (v : VersionVector) → v ≡ map.empty → get_or ns 0 0 ≡ 0 → (q : ℕ) → map.get v q ≡ cond (ltb q 1) (nonzero (get_or ns q 0)) None
none_before ns v is first zero = ap (λ (m : VersionVector). map.get m 0) is ∙ map.get-empty nat_cmp 0 ∙ sym (ap nonzero first)
none_before ns v is first (suc q) =
    let past : ltb (suc q) 1 ≡ false = grind (arith, nat_tests) in
    ap (λ (m : VersionVector). map.get m (suc q)) is ∙ map.get-empty nat_cmp (suc q) ∙ sym (ap (λ (t : Bool). cond t (nonzero (get_or ns (suc q) 0)) None) past)

nonzero_is : (n : ℕ) → 0 < n → Some n ≡ nonzero n
nonzero_is zero some = absurd (omega arith)
nonzero_is (suc n) some = refl

module _ (ns : List ℕ) (v : VersionVector) (site : ℕ) (so : (q : ℕ) → map.get v q ≡ cond (ltb q site) (nonzero (get_or ns q 0)) None) where
  pub with_number : (n : ℕ) → n ≡ get_or ns site 0 → 0 < n → (q : ℕ) → map.get (map.insert v site n) q ≡ cond (ltb q (site + 1)) (nonzero (get_or ns q 0)) None
  with_number n is some q = number_inserted v site n q ∙ alike (eqb q site) refl
    where
      alike : (b : Bool) → eqb q site ≡ b → cond b (Some n) (map.get v q) ≡ cond (ltb q (site + 1)) (nonzero (get_or ns q 0)) None
      alike true here =
          let at : site ≡ q = grind (arith, nat_tests) in
          let before : ltb q (site + 1) ≡ true = grind (arith, nat_tests) in
          nonzero_is n some ∙ ap nonzero (is ∙ ap (λ (k : ℕ). get_or ns k 0) at) ∙ sym (ap (λ (t : Bool). cond t (nonzero (get_or ns q 0)) None) before)
      alike false other =
          let same : ltb q site ≡ ltb q (site + 1) = grind (arith, nat_tests) in
          so q ∙ ap (λ (t : Bool). cond t (nonzero (get_or ns q 0)) None) same

  pub without_number : get_or ns site 0 ≡ 0 → (q : ℕ) → map.get v q ≡ cond (ltb q (site + 1)) (nonzero (get_or ns q 0)) None
  without_number none q = so q ∙ alike (eqb q site) refl
    where
      alike : (b : Bool) → eqb q site ≡ b → cond (ltb q site) (nonzero (get_or ns q 0)) None ≡ cond (ltb q (site + 1)) (nonzero (get_or ns q 0)) None
      alike true here =
          let at : site ≡ q = grind (arith, nat_tests) in
          let past : ltb q site ≡ false = grind (arith, nat_tests) in
          let before : ltb q (site + 1) ≡ true = grind (arith, nat_tests) in
          let zero_here : nonzero (get_or ns q 0) ≡ None = ap nonzero (sym (ap (λ (k : ℕ). get_or ns k 0) at) ∙ none) in
          ap (λ (t : Bool). cond t (nonzero (get_or ns q 0)) None) past ∙ sym (ap (λ (t : Bool). cond t (nonzero (get_or ns q 0)) None) before ∙ zero_here)
      alike false other =
          let same : ltb q site ≡ ltb q (site + 1) = grind (arith, nat_tests) in
          ap (λ (t : Bool). cond t (nonzero (get_or ns q 0)) None) same

none_past : (ns : List ℕ) (q : ℕ) → length ns ≤ q → get_or ns q 0 ≡ 0
none_past [] q le = refl
none_past (n ∷ ns) zero le = absurd (omega arith)
none_past (n ∷ ns) (suc q) le = none_past ns q (omega arith)

pub has_all_numbers : (ns : List ℕ) (v : VersionVector) (n : ℕ) → length ns ≤ n → ((q : ℕ) → map.get v q ≡ cond (ltb q n) (nonzero (get_or ns q 0)) None) → (q : ℕ) → map.get v q ≡ nonzero (get_or ns q 0)
has_all_numbers ns v n le so q = so q ∙ by_case (ltb q n) refl
  where
    by_case : (b : Bool) → ltb q n ≡ b → cond b (nonzero (get_or ns q 0)) None ≡ nonzero (get_or ns q 0)
    by_case true before = refl
    by_case false past = sym (ap nonzero (none_past ns q (grind (arith, nat_tests))))

-- no entry is of the site 0
none_of_0 : (xs : List Entry) (k : ℕ) → list_all in_range xs ≡ true → has_number xs 0 k ≡ false
none_of_0 [] k ranges = refl
none_of_0 (x ∷ xs) k ranges = ap (λ (b : Bool). b || has_number xs 0 k) (other (first_holds _ _ ranges)) ∙ none_of_0 xs k (rest_holds _ _ ranges)
  where
    other : in_range x ≡ true → (eqb x.site 0 && eqb x.seq k) ≡ false
    other range = grind (arith, nat_tests)

pub first_is_0 : (xs : List Entry) (ns : List ℕ) → list_all in_range xs ≡ true → AreNumbers xs ns → get_or ns 0 0 ≡ 0
first_is_0 xs ns ranges so = sym (so.at 0) ∙ by_number (number_of so.vector 0) ((so.is.numbers 0).all)
  where
    by_number : (n : ℕ) → ((k : ℕ) → 1 ≤ k → k ≤ n → has_number xs 0 k ≡ true) → n ≡ 0
    by_number zero all = refl
    by_number (suc n) all = absurd (false≢true (sym (none_of_0 xs 1 ranges) ∙ all 1 (omega arith) (omega arith)))

unwrapped : (n : ℕ) → unwrap_or (nonzero n) 0 ≡ n
unwrapped zero = refl
unwrapped (suc n) = refl

not_some_0 : (n : ℕ) → nonzero n ≡ Some 0 → ⊥
not_some_0 zero is = false≢true (ap (λ (o : Option ℕ). is_some o) is)
not_some_0 (suc n) is = let zero_too : suc n ≡ 0 = ap (λ (o : Option ℕ). unwrap_or o 0) is in absurd (omega (arith, zero_too))

pub vector_of_numbers : (xs : List Entry) (ns : List ℕ) (v : VersionVector) → AreNumbers xs ns → ((q : ℕ) → map.get v q ≡ nonzero (get_or ns q 0)) → IsVector xs v
vector_of_numbers xs ns v so is = record {
  numbers = λ site.
      let same : number_of so.vector site ≡ number_of v site = so.at site ∙ sym (ap (λ (o : Option ℕ). unwrap_or o 0) (is site) ∙ unwrapped (get_or ns site 0)) in
      subst (IsGreatest xs site) same (so.is.numbers site);
  positive = λ site none. not_some_0 (get_or ns site 0) (sym (is site) ∙ none);
}
