-- What is stored, place by place, where one relvar changes.
use Rattle.std.proofs.Common.{◌≡◌, ℕ, zero, suc, pred, [], ◌∷◌, get_or, length, Option, None, Some, Result, Ok, Err, OnOk, refl, ap, sym, ◌∙◌}
use Rattle.std.specs.Prelude.{slice_set}
use Rattle.td_values.specs.Rows.{RowsData}
use Rattle.td_relations.specs.Deltas.{DeltaData}
use Rattle.td_algebra.specs.declared.errors.Stop.{Stop}
use Rattle.td_semantics.specs.Databases.{Stored, at_place, with_relation, stored_relvars}
use Rattle.td_relvars.specs.Changed.{change, changed, changed_at}
use Rattle.td_relvars.proofs.Stores.{put_set}

pub ok_same : (a b : RowsData) → ◌≡◌ {A = Result RowsData Stop} (Ok a) (Ok b) → a ≡ b
ok_same a b h = cc

one_place : (x y : Option RowsData) → at_place (Some x) ≡ at_place (Some y) → x ≡ y
one_place None None h = refl
one_place None (Some r) h = cc
one_place (Some r) None h = cc
one_place (Some r) (Some q) h = ap Some (ok_same r q h)

-- stores with the same relvars at each place are one
pub one_store :
    (xs ys : Stored) → length xs ≡ length ys → ((n : ℕ) → stored_relvars xs n ≡ stored_relvars ys n) → xs ≡ ys
one_store [] [] e same = refl
one_store [] (y ∷ ys) e same = cc
one_store (x ∷ xs) [] e same = cc
one_store (x ∷ xs) (y ∷ ys) e same = λ i. one_place x y (same 0) i ∷ one_store xs ys (ap pred e) (λ n. same (suc n)) i

pub change_length : (n : ℕ) (d : DeltaData) (xs : Stored) → length (change n d xs) ≡ length xs
change_length n d [] = refl
change_length zero d (x ∷ xs) = refl
change_length (suc n) d (x ∷ xs) = ap suc (change_length n d xs)

placed :
    (x : Option RowsData) (r : RowsData) (d : DeltaData) → at_place (Some x) ≡ Ok r
    → at_place (Some (changed_at x d)) ≡ Ok (changed r d)
placed None r d h = cc
placed (Some q) r d h = ap (λ z. Ok (changed z d)) (ok_same q r h)

nowhere : {P : Type 0} (r : RowsData) → at_place None ≡ Ok r → P
nowhere r h = cc

pub change_there :
    (n : ℕ) (d : DeltaData) (xs : Stored) (r : RowsData) → stored_relvars xs n ≡ Ok r
    → stored_relvars (change n d xs) n ≡ Ok (changed r d)
change_there n d [] r h = nowhere r h
change_there zero d (x ∷ xs) r h = placed x r d h
change_there (suc n) d (x ∷ xs) r h = change_there n d xs r h

pub change_other :
    (n m : ℕ) (d : DeltaData) (xs : Stored) → (n ≡ m → ⊥) → stored_relvars (change n d xs) m ≡ stored_relvars xs m
change_other n m d [] apart = refl
change_other zero zero d (x ∷ xs) apart = absurd (apart refl)
change_other zero (suc m) d (x ∷ xs) apart = refl
change_other (suc n) zero d (x ∷ xs) apart = refl
change_other (suc n) (suc m) d (x ∷ xs) apart = change_other n m d xs (λ e. apart (ap suc e))

-- ---- a change is another relation in place of the one there
put_changed :
    (x : Option RowsData) (xs : Stored) (r : RowsData) (d : DeltaData) → at_place (Some x) ≡ Ok r
    → changed_at x d ∷ xs ≡ Some (changed r d) ∷ xs
put_changed None xs r d h = cc
put_changed (Some q) xs r d h = ap (λ z. Some (changed z d) ∷ xs) (ok_same q r h)

pub change_put :
    (n : ℕ) (d : DeltaData) (xs : Stored) (r : RowsData) → stored_relvars xs n ≡ Ok r
    → change n d xs ≡ with_relation n (changed r d) xs
change_put n d [] r h = nowhere r h
change_put zero d (x ∷ xs) r h = put_changed x xs r d h
change_put (suc n) d (x ∷ xs) r h = ap (λ ys. x ∷ ys) (change_put n d xs r h)

-- the relation that stands at the place
pub stands :
    (n : ℕ) (xs : Stored) (x : Option RowsData) (q r : RowsData) → x ≡ get_or xs n x → x ≡ Some q
    → stored_relvars xs n ≡ Ok r → stored_relvars xs n ≡ Ok q
stands n [] x q r at is has = nowhere r has
stands zero (y ∷ ys) x q r at is has = ap (λ z. at_place (Some z)) (sym at ∙ is)
stands (suc n) (y ∷ ys) x q r at is has = stands n ys x q r at is has

-- ---- what a change leaves, where it is made
pub set_changed :
    {E : Type 0} (a : Result (Unit {0}) E) (n : ℕ) (xs : Stored) (r new : RowsData) (d : DeltaData)
    → stored_relvars xs n ≡ Ok r → OnOk a (new ≡ changed r d) → OnOk a (slice_set xs n (Some new) ≡ change n d xs)
set_changed (Ok u) n xs r new d has is = put_set n new xs ∙ ap (λ q. with_relation n q xs) is ∙ sym (change_put n d xs r has)
set_changed (Err e) n xs r new d has is = tt
