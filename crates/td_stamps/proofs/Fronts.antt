-- The front that two sets share, by their stamps.
use Rattle.std.proofs.Common.{◌≡◌, ℕ, zero, suc, min, ◌+◌, ◌<◌, true, false, ◌||◌, if◌then◌else◌, List, [], ◌∷◌, length, take, drop, get_or, refl, sym, ap, subst, ◌∙◌, inl, inr, arith, add-one, drop-cons}
use mathlib.Core.Bool.{false≢true}
use Rattle.std.specs.List.{list_all}
use Rattle.std.proofs.lemmas.Bool.{cases_Bool, or_cases, or_left}
use Rattle.std.proofs.lemmas.Bool.Decides.{nat_tests}
use Rattle.td_stamps.specs.declared.entry.Entry.{Entry}
use Rattle.td_stamps.specs.Entries.{same, stamp_of}
use Rattle.td_stamps.specs.Sets.{has, is_set, apart}
use Rattle.td_stamps.specs.Checks.{shared_front}
use Rattle.td_stamps.specs.ForProofs.{Joins, tie, tied_front}
use Rattle.td_stamps.specs.Laws.{FrontIsShared}
use Rattle.td_stamps.proofs.EntryLemmas.{same-is, same-refl}
use Rattle.td_stamps.proofs.SetLemmas.{first_holds, rest_holds, adds_up}
use Rattle.td_stamps.proofs.Merges.{head_has, rest_lacks, stamps_differ}

pub front_is_shared : FrontIsShared
front_is_shared [] ys = none ys
  where
    none : (l : List Entry) → [] ≡ take 0 l
    none [] = refl
    none (y ∷ l) = refl
front_is_shared (x ∷ xs) [] = refl
front_is_shared (x ∷ xs) (y ∷ ys) = elim (same x y) as (λ b. same x y ≡ b → take (if b then suc (shared_front xs ys) else 0) (x ∷ xs) ≡ take (if b then suc (shared_front xs ys) else 0) (y ∷ ys)) [
  | true ↦ λ is. (λ i. same-is x y is i ∷ front_is_shared xs ys i)
  | false ↦ λ _. refl
] refl

-- all of one are in the other
abbrev pub Within : List Entry → List Entry → Type 0
Within xs ys = (e : Entry) → has xs e ≡ true → has ys e ≡ true

-- the rest of a set is within the rest of another that begins alike
rest_within : (x : Entry) (xs ys : List Entry) → list_all (apart x) xs ≡ true → Within (x ∷ xs) (x ∷ ys) → Within xs ys
rest_within x xs ys all within e in' = elim (or_cases _ _ (within e (later in'))) [
  | inl is ↦ absurd (false≢true (sym (rest_lacks x xs all) ∙ subst (λ (v : Entry). has xs v ≡ true) (same-is e x is) in'))
  | inr there ↦ there
]
  where
    later : has xs e ≡ true → has (x ∷ xs) e ≡ true
    later h = elim (same e x) as (λ b. (b || has xs e) ≡ true) [ true ↦ refl | false ↦ h ]

-- in a set that has all of another one, an entry with a stamp of that one is the same
pub tied_is_shared : (xs ys : List Entry) → is_set xs ≡ true → is_set ys ≡ true → Within xs ys → tied_front xs ys ≡ shared_front xs ys
tied_is_shared [] ys set_x set_y within = refl
tied_is_shared (x ∷ xs) [] set_x set_y within = refl
tied_is_shared (x ∷ xs) (y ∷ ys) set_x set_y within = elim (cases_Bool (tie x y)) [
  | inl tied ↦
      let stamps : stamp_of x ≡ stamp_of y = one_stamp tied in
      let is : x ≡ y = stamps_differ (y ∷ ys) set_y x y (within x (head_has x xs)) (head_has y ys) stamps in
      let rest : Within xs ys = rest_within x xs ys (first_holds _ _ set_x) (subst (λ (v : Entry). Within (x ∷ xs) (v ∷ ys)) (sym is) within) in
      rw (tied, subst (λ (v : Entry). same x v ≡ true) is (same-refl x)) (ap suc (tied_is_shared xs ys (rest_holds _ _ set_x) (rest_holds _ _ set_y) rest))
  | inr differs ↦ rw (differs, other differs) refl
]
  where
    one_stamp : tie x y ≡ true → stamp_of x ≡ stamp_of y
    one_stamp tied =
        let clocks : x.clock ≡ y.clock = grind (arith, nat_tests) in
        let sites : x.site ≡ y.site = grind (arith, nat_tests) in
        (λ i. record { clock = clocks i; site = sites i })

    other : tie x y ≡ false → same x y ≡ false
    other differs = elim (cases_Bool (same x y)) [
      | inl is ↦ absurd (false≢true (sym differs ∙ subst (λ (v : Entry). tie x v ≡ true) (same-is x y is) itself))
      | inr other_entry ↦ other_entry
    ]
      where
        itself : tie x x ≡ true
        itself = grind (arith, nat_tests)

-- what is held, and what joining it and a batch gives
pub joined_front : (held batch joined : List Entry) → is_set held ≡ true → Joins held batch joined → tied_front held joined ≡ shared_front held joined
joined_front held batch joined set so =
    let up = adds_up held held batch (λ p. refl) set so.clear in
    tied_is_shared held joined set so.set (λ e in'. ap (λ (l : List Entry). has l e) so.is ∙ up.members (same e) ∙ or_left _ _ in')

-- ---- a walk along both

module _ (xs ys : List Entry) (i : ℕ) (x y : Entry) (lt : i < length xs) (within : i < length ys) (at_x : x ≡ get_or xs i x) (at_y : y ≡ get_or ys i y) where
  ties : tie (get_or xs i x) (get_or ys i y) ≡ tie x y
  ties = ap (λ (v : Entry). tie v (get_or ys i y)) (sym at_x) ∙ ap (λ (v : Entry). tie x v) (sym at_y)

  -- the next two have one stamp
  pub tied_next : tie x y ≡ true → tied_front (drop i xs) (drop i ys) ≡ suc (tied_front (drop (i + 1) xs) (drop (i + 1) ys))
  tied_next tied = rw (add-one, drop-cons xs i x, drop-cons ys i y, ties, tied) refl

  -- or two
  pub untied_next : tie x y ≡ false → tied_front (drop i xs) (drop i ys) ≡ 0
  untied_next differs = rw (drop-cons xs i x, drop-cons ys i y, ties, differs) refl

-- behind the shorter one there is nothing
pub none_behind : (xs ys : List Entry) (i : ℕ) → i ≡ min (length xs) (length ys) → tied_front (drop i xs) (drop i ys) ≡ 0
none_behind [] ys zero is = refl
none_behind [] ys (suc i) is = refl
none_behind (x ∷ xs) [] zero is = refl
none_behind (x ∷ xs) [] (suc i) is = absurd (omega arith)
none_behind (x ∷ xs) (y ∷ ys) zero is = absurd (omega arith)
none_behind (x ∷ xs) (y ∷ ys) (suc i) is = none_behind xs ys i (omega arith)
