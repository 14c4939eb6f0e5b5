-- The fresh entries of a batch.
use Rattle.std.proofs.Common.{add-one, drop-cons, ◌≡◌, ℕ, suc, ◌+◌, ◌<◌, Bool, true, false, not, ◌&&◌, ◌||◌, cond, if◌then◌else◌, eqb, ltb, List, [], ◌∷◌, ◌++◌, length, take, drop, get_or, None, refl, sym, ap, subst, ◌∙◌, inl, inr, arith}
use mathlib.Core.Bool.{false≢true}
use Rattle.std.specs.List.{list_any, list_all}
use Rattle.std.specs.BTreeMap as tree
use Rattle.std.specs.Ordering.{ordering_then, nat_cmp}
use Rattle.std.specs.declared.cmp.Ordering.{Ordering}
use Rattle.std.specs.declared.cmp.Ordering.TheVariants.{Equal, Greater}
use Rattle.std.proofs.lemmas.Bool.{and_from, cases_Bool, or_cases, or_left, or_right}
use Rattle.std.proofs.lemmas.Bool.Decides.{nat_tests}
use Rattle.std.proofs.lemmas.List.{append_assoc, length-append, take_more}
use Rattle.std.proofs.lemmas.List.Folds.{list_any-append, list_all-append}
use Rattle.std.proofs.Math.Seq.{split_at}
use Rattle.td_stamps.specs.declared.entry.Entry.{Entry}
use Rattle.td_stamps.specs.declared.entry.Stamp.{Stamp}
use Rattle.td_stamps.specs.Entries.{same, clash, stamp_of}
use Rattle.td_stamps.specs.Sets.{has, union, NoClash}
use Rattle.td_stamps.specs.Checks.{first_clash, fresh_count, fresh_of}
use Rattle.td_stamps.specs.Laws.{FreshAreNew, FreshAreOfBatch, FreshAreCounted, FreshSuffice}
use Rattle.td_stamps.proofs.EntryLemmas.{same-is, same-refl, tied}
use Rattle.td_stamps.proofs.SetLemmas.{first_holds, rest_holds, or_false}
use Rattle.td_stamps.proofs.Merges.{NoClash-fewer, merged, same_set}
use Rattle.td_stamps.proofs.Sorting.{at_number, first_clash-hit}

-- ---- laws

pub fresh_are_counted : FreshAreCounted
fresh_are_counted seen [] = refl
fresh_are_counted seen (e ∷ es) =
    length-append (if has seen e then [] else e ∷ []) (fresh_of (seen ++ e ∷ []) es)
    ∙ ap (λ n. length (if has seen e then [] else e ∷ []) + n) (fresh_are_counted (seen ++ e ∷ []) es)
    ∙ ap (λ n. n + fresh_count (seen ++ e ∷ []) es) (one (has seen e))
  where
    one : (b : Bool) → length (if b then [] else e ∷ []) ≡ (if b then 0 else 1)
    one true = refl
    one false = refl

pub fresh_are_new : FreshAreNew
fresh_are_new seen [] z = refl
fresh_are_new seen (e ∷ es) z =
    list_any-append (same z) (if has seen e then [] else e ∷ []) (fresh_of (seen ++ e ∷ []) es)
    ∙ ap (λ b. has (if has seen e then [] else e ∷ []) z || b) (fresh_are_new (seen ++ e ∷ []) es z ∙ ap (λ b. has es z && not b) (list_any-append (same z) seen (e ∷ [])))
    ∙ by_same (same z e) refl
  where
    here : (b : Bool) → (has (if b then [] else e ∷ []) z || (has es z && not (b || (same z e || false)))) ≡ ((same z e || has es z) && not b)
    here true = elim (same z e) as (λ t. (has es z && not (true || (t || false))) ≡ ((t || has es z) && false)) [ true ↦ nothing (has es z) | false ↦ refl ]
      where
        nothing : (b : Bool) → (b && false) ≡ false
        nothing true = refl
        nothing false = refl
    here false = elim (same z e) as (λ t. ((t || false) || (has es z && not (t || false))) ≡ ((t || has es z) && true)) [ true ↦ refl | false ↦ whole (has es z) ]
      where
        whole : (b : Bool) → (b && true) ≡ (b && true)
        whole b = refl

    by_same : (t : Bool) → same z e ≡ t → (has (if has seen e then [] else e ∷ []) z || (has es z && not (has seen z || (same z e || false)))) ≡ ((same z e || has es z) && not (has seen z))
    by_same true is = subst (λ (v : Entry). (has (if has seen v then [] else e ∷ []) z || (has es z && not (has seen z || (same z e || false)))) ≡ ((same z e || has es z) && not (has seen z))) (same-is z e is) (here (has seen z))
    by_same false differs = other (has seen e)
      where
        other : (b : Bool) → (has (if b then [] else e ∷ []) z || (has es z && not (has seen z || (same z e || false)))) ≡ ((same z e || has es z) && not (has seen z))
        other true = rw (differs, or_false (has seen z)) refl
        other false = rw (differs, or_false (has seen z)) refl

pub fresh_are_of_batch : FreshAreOfBatch
fresh_are_of_batch seen [] test all = refl
fresh_are_of_batch seen (e ∷ es) test all =
    list_all-append test (if has seen e then [] else e ∷ []) (fresh_of (seen ++ e ∷ []) es)
    ∙ and_from _ _ (one (has seen e)) (fresh_are_of_batch (seen ++ e ∷ []) es test (rest_holds _ _ all))
  where
    one : (b : Bool) → list_all test (if b then [] else e ∷ []) ≡ true
    one true = refl
    one false = and_from _ _ (first_holds _ _ all) refl

pub fresh_suffice : FreshSuffice
fresh_suffice held batch set free =
    let fresh = fresh_of held batch in
    let fewer : NoClash (held ++ fresh) = NoClash-fewer (held ++ fresh) (held ++ batch) in_both free in
    let some = merged held fresh set fewer in
    let all = merged held batch set free in
    same_set (union held fresh) (union held batch) some.set all.set (λ z. some.members (same z) ∙ either z ∙ sym (all.members (same z)))
  where
    others : (a b : Bool) → (a || (b && not a)) ≡ (a || b)
    others true b = refl
    others false true = refl
    others false false = refl

    either : (z : Entry) → (has held z || has (fresh_of held batch) z) ≡ (has held z || has batch z)
    either z = ap (λ b. has held z || b) (fresh_are_new held batch z) ∙ others (has held z) (has batch z)

    in_both : (z : Entry) → has (held ++ fresh_of held batch) z ≡ true → has (held ++ batch) z ≡ true
    in_both z in' = list_any-append (same z) held batch ∙ sym (either z) ∙ sym (list_any-append (same z) held (fresh_of held batch)) ∙ in'

-- ---- a walk along a batch, in which the stamps of those passed are kept

-- the entry has the stamp
abbrev pub at : Stamp → Entry → Bool
at s x = eqb x.clock s.clock && eqb x.site s.site

-- the order of stamps
abbrev pub stamp_order : Stamp → Stamp → Ordering
stamp_order s t = ordering_then (nat_cmp s.clock t.clock) (nat_cmp s.site t.site)

-- where a set of stamps finds one
pub at_stamp : (s t : Stamp) → tree.is_at (stamp_order s) t ≡ (eqb s.clock t.clock && eqb s.site t.site)
at_stamp s t = elim (cases_Bool (ltb s.clock t.clock)) [
  | inl less ↦ let differ : eqb s.clock t.clock ≡ false = grind (arith, nat_tests) in rw (less, differ) refl
  | inr not_less ↦ rw not_less (elim (eqb s.clock t.clock) as (λ b. tree.is_at (λ _. ordering_then (cond b Equal Greater) (nat_cmp s.site t.site)) t ≡ (b && eqb s.site t.site)) [ true ↦ at_number s.site t.site | false ↦ refl ])
]

-- without a clash one with the stamp of one passed is that one
pub tied_is_there : (held front : List Entry) (e : Entry) (rest : List Entry) → first_clash held (front ++ e ∷ rest) ≡ None → list_any (at (stamp_of e)) front ≡ true → has front e ≡ true
tied_is_there held front e rest clear hit = elim (cases_Bool (list_any (clash e) (held ++ front))) [
  | inl clashing ↦ absurd (first_clash-hit held front e rest clashing clear)
  | inr none ↦ among front (free (list_any (clash e) held) (list_any (clash e) front) (sym (list_any-append (clash e) held front) ∙ none)) hit
]
  where
    free : (a b : Bool) → (a || b) ≡ false → b ≡ false
    free true b h = absurd (false≢true (sym h))
    free false b h = h

    is_it : (x : Entry) → at (stamp_of e) x ≡ true → clash e x ≡ false → e ≡ x
    is_it x here none =
        let clocks : e.clock ≡ x.clock = grind (arith, nat_tests) in
        let sites : e.site ≡ x.site = grind (arith, nat_tests) in
        tied e x (grind (arith, nat_tests)) (grind (arith, nat_tests)) none

    among : (xs : List Entry) → list_any (clash e) xs ≡ false → list_any (at (stamp_of e)) xs ≡ true → has xs e ≡ true
    among [] none found = absurd (false≢true found)
    among (x ∷ xs) none found = elim (or_cases _ _ found) [
      | inl here ↦ let is : e ≡ x = is_it x here (clear_of _ _ none) in subst (λ (v : Entry). (same e v || has xs e) ≡ true) is (ap (λ b. b || has xs e) (same-refl e))
      | inr later ↦ or_right _ _ (among xs (free _ _ none) later)
    ]
      where
        clear_of : (a b : Bool) → (a || b) ≡ false → a ≡ false
        clear_of true b h = absurd (false≢true (sym h))
        clear_of false b h = refl

-- and one with another stamp is none of them
pub untied_is_new : (front : List Entry) (e : Entry) → list_any (at (stamp_of e)) front ≡ false → has front e ≡ false
untied_is_new front e none = elim (cases_Bool (has front e)) [
  | inl in' ↦ absurd (false≢true (sym none ∙ has_stamp front in'))
  | inr out ↦ out
]
  where
    has_stamp : (xs : List Entry) → has xs e ≡ true → list_any (at (stamp_of e)) xs ≡ true
    has_stamp [] in' = absurd (false≢true in')
    has_stamp (x ∷ xs) in' = elim (or_cases _ _ in') [
      | inl is ↦ subst (λ (v : Entry). (at (stamp_of e) v || list_any (at (stamp_of e)) xs) ≡ true) (same-is e x is) (ap (λ b. b || list_any (at (stamp_of e)) xs) itself)
      | inr later ↦ or_right _ _ (has_stamp xs later)
    ]
      where
        itself : at (stamp_of e) e ≡ true
        itself = grind (arith, nat_tests)

-- the stamps passed, with one more
pub passed_next : (s : Stamp) (front : List Entry) (e : Entry) (key : Stamp) (now next : Bool) → key ≡ stamp_of e → now ≡ list_any (at s) front → next ≡ cond (tree.is_at (stamp_order key) s) true now
    → next ≡ list_any (at s) (front ++ e ∷ [])
passed_next s front e key now next is so_far steps =
    steps ∙ ap (λ (k : Stamp). cond (tree.is_at (stamp_order k) s) true now) is ∙ ap (λ b. cond b true now) (at_stamp (stamp_of e) s) ∙ ap (λ b. cond (at s e) true b) so_far
    ∙ either (at s e) (list_any (at s) front) ∙ sym (list_any-append (at s) front (e ∷ []))
  where
    either : (a b : Bool) → cond a true b ≡ (b || (a || false))
    either true true = refl
    either true false = refl
    either false true = refl
    either false false = refl

-- the next entry of a batch
module _ (held batch : List Entry) (i : ℕ) (e : Entry) (lt : i < length batch) (is : e ≡ get_or batch i e) where
  pub one_more : take (i + 1) batch ≡ take i batch ++ e ∷ []
  one_more = take_more batch i e lt ∙ ap (λ (v : Entry). take i batch ++ v ∷ []) (sym is)

  rest_is : drop i batch ≡ e ∷ drop (i + 1) batch
  rest_is = rw (add-one) (drop-cons batch i e lt) ∙ ap (λ (v : Entry). v ∷ drop (i + 1) batch) (sym is)

  seen_next : (held ++ take i batch) ++ e ∷ [] ≡ held ++ take (i + 1) batch
  seen_next = append_assoc held (take i batch) (e ∷ []) ∙ ap (λ l. held ++ l) (sym one_more)

  -- it was seen before
  pub known_next : (found : List Entry) → has (held ++ take i batch) e ≡ true → found ++ fresh_of (held ++ take i batch) (drop i batch) ≡ fresh_of held batch
      → found ++ fresh_of (held ++ take (i + 1) batch) (drop (i + 1) batch) ≡ fresh_of held batch
  known_next found in' so_far = ap (λ l. found ++ l) (sym step) ∙ so_far
    where
      step : fresh_of (held ++ take i batch) (drop i batch) ≡ fresh_of (held ++ take (i + 1) batch) (drop (i + 1) batch)
      step =
          ap (fresh_of (held ++ take i batch)) rest_is
          ∙ ap (λ b. (if b then [] else e ∷ []) ++ fresh_of ((held ++ take i batch) ++ e ∷ []) (drop (i + 1) batch)) in'
          ∙ ap (λ l. fresh_of l (drop (i + 1) batch)) seen_next

  -- or it is fresh
  pub fresh_next : (found : List Entry) → has (held ++ take i batch) e ≡ false → found ++ fresh_of (held ++ take i batch) (drop i batch) ≡ fresh_of held batch
      → (found ++ e ∷ []) ++ fresh_of (held ++ take (i + 1) batch) (drop (i + 1) batch) ≡ fresh_of held batch
  fresh_next found out so_far = append_assoc found (e ∷ []) (fresh_of (held ++ take (i + 1) batch) (drop (i + 1) batch)) ∙ ap (λ l. found ++ l) (sym step) ∙ so_far
    where
      step : fresh_of (held ++ take i batch) (drop i batch) ≡ (e ∷ []) ++ fresh_of (held ++ take (i + 1) batch) (drop (i + 1) batch)
      step =
          ap (fresh_of (held ++ take i batch)) rest_is
          ∙ ap (λ b. (if b then [] else e ∷ []) ++ fresh_of ((held ++ take i batch) ++ e ∷ []) (drop (i + 1) batch)) out
          ∙ ap (λ l. (e ∷ []) ++ fresh_of l (drop (i + 1) batch)) seen_next

  -- its stamp was passed, or not
  pub seen_by_stamp : first_clash held batch ≡ None → list_any (at (stamp_of e)) (take i batch) ≡ true → has (held ++ take i batch) e ≡ true
  seen_by_stamp clear hit =
      let whole : batch ≡ take i batch ++ e ∷ drop (suc i) batch = split_at batch i e lt ∙ ap (λ (v : Entry). take i batch ++ v ∷ drop (suc i) batch) (sym is) in
      list_any-append (same e) held (take i batch) ∙ or_right _ _ (tied_is_there held (take i batch) e (drop (suc i) batch) (sym (ap (first_clash held) whole) ∙ clear) hit)

  pub seen_in_held : has held e ≡ true → has (held ++ take i batch) e ≡ true
  seen_in_held in' = list_any-append (same e) held (take i batch) ∙ or_left _ _ in'

  pub not_seen : has held e ≡ false → list_any (at (stamp_of e)) (take i batch) ≡ false → has (held ++ take i batch) e ≡ false
  not_seen out none = list_any-append (same e) held (take i batch) ∙ ap (λ b. b || has (take i batch) e) out ∙ untied_is_new (take i batch) e none
