-- Old entries among new ones: the first new one is the first old one, or it is fresh.
use Rattle.std.proofs.Common.{◌≡◌, ℕ, zero, suc, ◌||◌, inl, inr, ⊎_elim, arith, true, false, List, [], ◌∷◌, drop, take, length, ◌≤◌, refl, ap, sym, subst, ◌∙◌}
use mathlib.Core.Bool.{true≢false, false≢true}
use Rattle.std.specs.List.{list_all}
use Rattle.std.specs.Prelude.{IsOk}
use Rattle.std.proofs.lemmas.Bool.{cases_Bool, or_left}
use Rattle.std.proofs.lemmas.Bool.Decides.{nat_tests}
use Rattle.td_stamps.specs.declared.entry.Entry.{Entry}
use Rattle.td_stamps.specs.Entries.{before, same, stamp_of}
use Rattle.td_stamps.specs.ForProofs.{tie}
use Rattle.td_stamps.specs.Sets.{apart, has, is_set}
use Rattle.td_stamps.proofs.EntryLemmas.{same-is, same-refl}
use Rattle.td_stamps.proofs.Merges.{stamps_differ}
use Rattle.td_stamps.proofs.SetLemmas.{absent_below, adds_up, first_holds, fits, not_same, rest_holds}
use Rattle.td_rollback.specs.Laws.{UnionIsMore}
use Rattle.td_rollback.specs.Touched.{AreMore}
use Rattle.td_rollback.proofs.Members.{has_cases, has_first, has_later}

tail_set : (e : Entry) (es : List Entry) → is_set (e ∷ es) ≡ true → is_set es ≡ true
tail_set e es set = rest_holds (list_all (apart e) es) (is_set es) set

-- the first of a set comes before the rest, and is not among it
first_before : (e x : Entry) (fs : List Entry) → list_all (apart e) fs ≡ true → has fs x ≡ true → before e x ≡ true
first_before e x [] all h = absurd (false≢true h)
first_before e x (f ∷ fs) all h = ⊎_elim
    (λ is. subst (λ (y : Entry). before e y ≡ true) (sym is) (first_holds (before e f) _ (first_holds (apart e f) (list_all (apart e) fs) all)))
    (λ later. first_before e x fs (rest_holds (apart e f) (list_all (apart e) fs) all) later)
    (has_cases f x fs h)

rest_lacks : (e : Entry) (fs : List Entry) → list_all (apart e) fs ≡ true → has fs e ≡ false
rest_lacks e [] all = refl
rest_lacks e (g ∷ gs) all = ap (λ b. b || has gs e) (not_same e g (first_holds (before e g) _ (first_holds (apart e g) (list_all (apart e) gs) all))) ∙ rest_lacks e gs (rest_holds (apart e g) (list_all (apart e) gs) all)

pub none_left : {P : Type 0} (y : Entry) (es : List Entry) → AreMore (y ∷ es) [] → P
none_left y es more = absurd (false≢true (more.among y (has_first y es)))

pub not_fresh : {P : Type 0} (e y : Entry) (es : List Entry) → same e y ≡ true → has (y ∷ es) e ≡ false → P
not_fresh e y es is h = absurd (true≢false (sym (ap (λ b. b || has es e) is) ∙ h))

-- behind a fresh entry
pub fresh_on : (e : Entry) (es fs : List Entry) → has es e ≡ false → AreMore es (e ∷ fs) → AreMore es fs
fresh_on e es fs lacks more = record { old_set = more.old_set; new_set = tail_set e fs more.new_set; among = among }
  where
    among : (x : Entry) → has es x ≡ true → has fs x ≡ true
    among x h = ⊎_elim (λ is. absurd (false≢true (sym lacks ∙ subst (λ (y : Entry). has es y ≡ true) is h))) (λ later. later) (has_cases e x fs (more.among x h))

-- behind an old one
pub old_on : (e : Entry) (es fs : List Entry) → AreMore (e ∷ es) (e ∷ fs) → AreMore es fs
old_on e es fs more = record { old_set = tail_set e es more.old_set; new_set = tail_set e fs more.new_set; among = among }
  where
    lacks : has es e ≡ false
    lacks = rest_lacks e es (first_holds (list_all (apart e) es) (is_set es) more.old_set)

    among : (x : Entry) → has es x ≡ true → has fs x ≡ true
    among x h = ⊎_elim (λ is. absurd (false≢true (sym lacks ∙ subst (λ (y : Entry). has es y ≡ true) is h))) (λ later. later) (has_cases e x fs (more.among x (has_later e x es h)))

pub same_on : (e y : Entry) (es fs : List Entry) → same e y ≡ true → AreMore (y ∷ es) (e ∷ fs) → AreMore es fs
same_on e y es fs is more = old_on e es fs (subst (λ (z : Entry). AreMore (z ∷ es) (e ∷ fs)) (sym (same-is e y is)) more)

-- one that is not the first old one is fresh
pub other_is_fresh : (e y : Entry) (es fs : List Entry) → same e y ≡ false → AreMore (y ∷ es) (e ∷ fs) → has (y ∷ es) e ≡ false
other_is_fresh e y es fs other more = ⊎_elim
    (λ is. absurd (true≢false (sym (subst (λ (z : Entry). same e z ≡ true) (sym is) (same-refl e)) ∙ other)))
    (λ later.
    let low = first_before e y fs (first_holds (list_all (apart e) fs) (is_set fs) more.new_set) later in
    ap (λ b. b || has es e) (not_same e y low) ∙ absent_below e y es low (first_holds (list_all (apart y) es) (is_set es) more.old_set))
    (has_cases e y fs (more.among y (has_first y es)))

-- ---- by counts
pub no_fewer : (es fs : List Entry) → AreMore es fs → length es ≤ length fs
no_fewer [] fs more = omega arith
no_fewer (y ∷ es) [] more = none_left y es more
no_fewer (y ∷ es) (e ∷ fs) more = elim (cases_Bool (same e y)) [
  | inl is ↦ let le = no_fewer es fs (same_on e y es fs is more) in omega (arith, le)
  | inr other ↦ let le = no_fewer (y ∷ es) fs (fresh_on e (y ∷ es) fs (other_is_fresh e y es fs other more) more) in omega (arith, le)
]

-- where the new ones are no more they are the old ones
pub all_old : (es fs : List Entry) → AreMore es fs → length fs ≤ length es → es ≡ fs
all_old [] [] more few = refl
all_old [] (e ∷ fs) more few = absurd (omega (arith, few))
all_old (y ∷ es) [] more few = none_left y es more
all_old (y ∷ es) (e ∷ fs) more few = elim (cases_Bool (same e y)) [
  | inl is ↦ let rest = all_old es fs (same_on e y es fs is more) (omega (arith, few)) in (λ i. sym (same-is e y is) i ∷ rest i)
  | inr other ↦ let le = no_fewer (y ∷ es) fs (fresh_on e (y ∷ es) fs (other_is_fresh e y es fs other more) more) in absurd (omega (arith, le, few))
]

-- ---- by stamps
tied_self : (e : Entry) → tie e e ≡ true
tied_self e = grind (arith, nat_tests)

one_stamp : (e y : Entry) → tie e y ≡ true → stamp_of e ≡ stamp_of y
one_stamp e y tied =
    let clocks : e.clock ≡ y.clock = grind (arith, nat_tests) in
    let sites : e.site ≡ y.site = grind (arith, nat_tests) in
    (λ i. record { clock = clocks i; site = sites i })

-- where a new entry and an old one have one stamp they are one
pub same_by_stamp : (es fs : List Entry) (e y : Entry) → AreMore es fs → has es y ≡ true → has fs e ≡ true → tie e y ≡ same e y
same_by_stamp es fs e y more old new = elim (cases_Bool (tie e y)) [
  | inl tied ↦
      let is : e ≡ y = stamps_differ fs more.new_set e y new (more.among y old) (one_stamp e y tied) in
      tied ∙ sym (subst (λ (z : Entry). same e z ≡ true) is (same-refl e))
  | inr differs ↦ differs ∙ sym (other differs)
]
  where
    other : tie e y ≡ false → same e y ≡ false
    other differs = elim (cases_Bool (same e y)) [
      | inl is ↦ absurd (false≢true (sym differs ∙ subst (λ (z : Entry). tie e z ≡ true) (same-is e y is) (tied_self e)))
      | inr not_one ↦ not_one
    ]

-- behind what both begin with
pub more_behind : (k : ℕ) (es fs : List Entry) → take k es ≡ take k fs → AreMore es fs → AreMore (drop k es) (drop k fs)
more_behind zero es fs alike more = more
more_behind (suc k) [] fs alike more = record { old_set = refl; new_set = new_set (suc k) fs more.new_set; among = λ x h. absurd (false≢true h) }
  where
    new_set : (n : ℕ) (gs : List Entry) → is_set gs ≡ true → is_set (drop n gs) ≡ true
    new_set zero gs set = set
    new_set (suc n) [] set = set
    new_set (suc n) (g ∷ gs) set = new_set n gs (tail_set g gs set)
more_behind (suc k) (e ∷ es) [] alike more = cc
more_behind (suc k) (e ∷ es) (f ∷ fs) alike more =
    let first : e ≡ f = cc in
    let rest : take k es ≡ take k fs = cc in
    more_behind k es fs rest (old_on f es fs (subst (λ (z : Entry). AreMore (z ∷ es) (f ∷ fs)) first more))

-- with a batch that is not refused
pub union_is_more : UnionIsMore
union_is_more held batch limit n set h =
    let clear = (fits held limit batch (subst (λ r. IsOk r) (sym h) refl)).clear in
    let up = adds_up held held batch (λ p. refl) set clear in
    record { old_set = set; new_set = up.set; among = λ e is. up.members (same e) ∙ or_left (has held e) (has batch e) is }
