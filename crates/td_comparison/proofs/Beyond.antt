-- The entries of a site up to a number, and those beyond it: in a set they stand in this order.
use Rattle.std.proofs.Common.{◌≡◌, ℕ, ◌<◌, ◌≤◌, Bool, true, false, ◌&&◌, cond, eqb, leb, ltb, List, [], ◌∷◌, ◌++◌, refl, sym, ap, subst, ◌∙◌, inl, inr, arith, append-nil}
use Rattle.std.specs.List.{list_all}
use Rattle.std.proofs.lemmas.Bool.{cases_Bool}
use Rattle.std.proofs.lemmas.Bool.Decides.{nat_tests}
use Rattle.td_stamps.specs.declared.entry.Entry.{Entry}
use Rattle.td_stamps.specs.Entries.{in_range}
use Rattle.td_stamps.specs.Sets.{apart, is_set}
use Rattle.td_stamps.proofs.SetLemmas.{first_holds, rest_holds}
use Rattle.sha2.specs.Hashers.{Holds256}
use Rattle.sha2.specs.declared.Sha256.{Sha256}
use Rattle.td_frames.specs.Spelling.{entry_frames}
use Rattle.td_frames.specs.declared.version.Version.TheVariants.{Second}
use Rattle.td_comparison.specs.Digests.{first_entries}
use Rattle.td_comparison.specs.Hashed.{IsFed, entries_between}
use Rattle.td_comparison.specs.declared.digest.SiteFeed.{SiteFeed}

-- an entry that comes later has a greater number
later_number : (x y : Entry) → apart x y ≡ true → y.site ≡ x.site → x.seq < y.seq
later_number x y after own = grind (arith, nat_tests)

none_later : (x : Entry) (n : ℕ) (ys : List Entry) → list_all (apart x) ys ≡ true → n < x.seq → first_entries x.site n ys ≡ []
none_later x n [] after past = refl
none_later x n (y ∷ ys) after past =
    ap (λ (b : Bool). cond b (y ∷ first_entries x.site n ys) (first_entries x.site n ys)) (not_counted (first_holds _ _ after)) ∙ none_later x n ys (rest_holds _ _ after) past
  where
    not_counted : apart x y ≡ true → (eqb y.site x.site && leb y.seq n) ≡ false
    not_counted apart = grind (arith, nat_tests)

-- no entry has the number 0
pub none_at_0 : (site : ℕ) (xs : List Entry) → list_all in_range xs ≡ true → first_entries site 0 xs ≡ []
none_at_0 site [] ranges = refl
none_at_0 site (x ∷ xs) ranges =
    ap (λ (b : Bool). cond b (x ∷ first_entries site 0 xs) (first_entries site 0 xs)) (not_counted (first_holds _ _ ranges)) ∙ none_at_0 site xs (rest_holds _ _ ranges)
  where
    not_counted : in_range x ≡ true → (eqb x.site site && leb x.seq 0) ≡ false
    not_counted range = grind (arith, nat_tests)

tested : (f b a f' b' a' : Bool) (x : Entry) (first between all : List Entry) → f ≡ f' → b ≡ b' → a ≡ a' → cond f' (x ∷ first) first ++ cond b' (x ∷ between) between ≡ cond a' (x ∷ all) all
    → cond f (x ∷ first) first ++ cond b (x ∷ between) between ≡ cond a (x ∷ all) all
tested f b a f' b' a' x first between all is_f is_b is_a there =
    ap (λ (t : Bool). cond t (x ∷ first) first ++ cond b (x ∷ between) between) is_f ∙ ap (λ (t : Bool). cond f' (x ∷ first) first ++ cond t (x ∷ between) between) is_b ∙ there
    ∙ sym (ap (λ (t : Bool). cond t (x ∷ all) all) is_a)

-- the two parts are all up to the greater number
pub parts : (site from n : ℕ) (xs : List Entry) → is_set xs ≡ true → from ≤ n → first_entries site from xs ++ entries_between site from n xs ≡ first_entries site n xs
parts site from n [] set le = refl
parts site from n (x ∷ xs) set le =
    let f = eqb x.site site && leb x.seq from in
    let b = eqb x.site site && (ltb from x.seq && leb x.seq n) in
    let a = eqb x.site site && leb x.seq n in
    let rest : first_entries site from xs ++ entries_between site from n xs ≡ first_entries site n xs = parts site from n xs (rest_holds (list_all (apart x) xs) (is_set xs) set) le in
    let by = λ (f' b' a' : Bool). tested f b a f' b' a' x (first_entries site from xs) (entries_between site from n xs) (first_entries site n xs) in
    elim (cases_Bool (eqb x.site site)) [
      | inr other ↦ by false false false (ap (λ (t : Bool). t && leb x.seq from) other) (ap (λ (t : Bool). t && (ltb from x.seq && leb x.seq n)) other) (ap (λ (t : Bool). t && leb x.seq n) other) rest
      | inl own ↦ elim (cases_Bool (leb x.seq from)) [
        | inl early ↦ by true false true (grind (arith, nat_tests)) (grind (arith, nat_tests)) (grind (arith, nat_tests)) (ap (λ (l : List Entry). x ∷ l) rest)
        | inr late ↦ elim (cases_Bool (leb x.seq n)) [
          | inl within ↦ by false true true (grind (arith, nat_tests)) (grind (arith, nat_tests)) (grind (arith, nat_tests)) (past own late rest)
          | inr beyond ↦ by false false false (grind (arith, nat_tests)) (grind (arith, nat_tests)) (grind (arith, nat_tests)) rest
        ]
      ]
    ]
  where
    past : eqb x.site site ≡ true → leb x.seq from ≡ false → first_entries site from xs ++ entries_between site from n xs ≡ first_entries site n xs
        → first_entries site from xs ++ x ∷ entries_between site from n xs ≡ x ∷ first_entries site n xs
    past own late rest =
        let at : x.site ≡ site = grind (arith, nat_tests) in
        let none : first_entries site from xs ≡ [] = subst (λ (q : ℕ). first_entries q from xs ≡ []) at (none_later x from xs (first_holds _ _ set) (grind (arith, nat_tests))) in
        ap (λ (l : List Entry). l ++ x ∷ entries_between site from n xs) none
        ∙ ap (λ (l : List Entry). x ∷ l) (sym (ap (λ (l : List Entry). l ++ entries_between site from n xs) none) ∙ rest)

-- what a feed has taken of all that is held
pub all_taken : (xs : List Entry) (f : SiteFeed) → is_set xs ≡ true → IsFed xs xs f → Holds256 f.hasher (entry_frames Second (first_entries f.site f.number xs))
all_taken xs f set fed = subst (λ (l : List Entry). Holds256 f.hasher (entry_frames Second l)) (parts f.site f.from f.number xs set fed.within) fed.taken

-- and what it had taken when it began
pub begun : (xs : List Entry) (site from n : ℕ) (h : Sha256) → Holds256 h (entry_frames Second (first_entries site from xs)) → Holds256 h (entry_frames Second (first_entries site from xs ++ entries_between site from n []))
begun xs site from n h taken = subst (λ (l : List Entry). Holds256 h (entry_frames Second l)) (sym (append-nil (first_entries site from xs))) taken
