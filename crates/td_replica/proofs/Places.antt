-- In a set a stamp has one place.
use Rattle.std.proofs.Common.{◌≡◌, Bool, true, ◌||◌, ◌&&◌, ◌==◌, nat_lt, List, [], ◌∷◌, ◌++◌, refl, sym, ap, ◌∙◌, subst}
use mathlib.Core.Bool.{false≢true}
use Rattle.std.specs.List.{list_all}
use Rattle.td_stamps.specs.Entries.{before, stamp_of}
use Rattle.td_stamps.specs.Sets.{apart, is_set}
use Rattle.td_stamps.specs.declared.entry.Entry.{Entry}
use Rattle.td_stamps.specs.declared.entry.Stamp.{Stamp}
use Rattle.td_stamps.proofs.EntryLemmas.{before-irrefl}
use Rattle.td_stamps.proofs.SetLemmas.{first_holds, rest_holds}

in_the_middle : (p : Entry → Bool) (xs : List Entry) (e : Entry) (ys : List Entry) → list_all p (xs ++ e ∷ ys) ≡ true → p e ≡ true
in_the_middle p [] e ys all = first_holds _ _ all
in_the_middle p (x ∷ xs) e ys all = in_the_middle p xs e ys (rest_holds _ _ all)

-- what is apart has two stamps
two_stamps : {P : Type 0} (x y : Entry) → apart x y ≡ true → stamp_of x ≡ stamp_of y → P
two_stamps x y h same =
    let is_behind : Stamp → Bool = λ s. nat_lt x.clock s.clock || ((x.clock == s.clock) && nat_lt x.site s.site) in
    absurd (false≢true (sym (before-irrefl x) ∙ ap is_behind same ∙ first_holds (before x y) _ h))

pub one_place :
    (xs ys : List Entry) (x y : Entry) (us vs : List Entry) → is_set (xs ++ x ∷ us) ≡ true → (xs ++ x ∷ us) ≡ (ys ++ y ∷ vs) → stamp_of x ≡ stamp_of y
    → (xs ≡ ys) × (x ≡ y)
one_place [] [] x y us vs set is same = (refl, cc)
one_place [] (z ∷ ys) x y us vs set is same =
    let rest : us ≡ ys ++ y ∷ vs = cc in
    two_stamps x y (in_the_middle (apart x) ys y vs (subst (λ (l : List Entry). list_all (apart x) l ≡ true) rest (first_holds _ _ set))) same
one_place (z ∷ xs) [] x y us vs set is same =
    let first : z ≡ y = cc in
    two_stamps z x (in_the_middle (apart z) xs x us (first_holds _ _ set)) (ap stamp_of first ∙ sym same)
one_place (z ∷ xs) (w ∷ ys) x y us vs set is same =
    let first : z ≡ w = cc in
    let rest : xs ++ x ∷ us ≡ ys ++ y ∷ vs = cc in
    let found = one_place xs ys x y us vs (rest_holds _ _ set) rest same in
    ((λ i. first i ∷ found.0 i), found.1)
