-- Answers of which only the errors are asked for.
use Rattle.std.proofs.Common.{◌≡◌, ◌<◌, ◌≤◌, ℕ, ◌+◌, List, ◌∷◌, length, get_or, drop, Result, Ok, Err, refl, sym, ap, ◌∙◌}
use Rattle.std.proofs.lemmas.List.{drop_more, drop_all}
use Rattle.td_algebra.specs.declared.errors.Stop.{Stop}
use Rattle.td_algebra.specs.Raising.{all_of, alone, and_all, and_then}
use Rattle.td_algebra.specs.ForProofs.Checking.{both, checked}
use Rattle.td_algebra.proofs.Walks.{lesser_assoc}

both_assoc : (a b c : Result (Unit {0}) Stop) → both (both a b) c ≡ both a (both b c)
both_assoc (Ok x) (Ok y) (Ok z) = refl
both_assoc (Ok x) (Ok y) (Err g) = refl
both_assoc (Ok x) (Err f) (Ok z) = refl
both_assoc (Ok x) (Err f) (Err g) = refl
both_assoc (Err e) (Ok y) (Ok z) = refl
both_assoc (Err e) (Ok y) (Err g) = refl
both_assoc (Err e) (Err f) (Ok z) = refl
both_assoc (Err e) (Err f) (Err g) = ap Err (lesser_assoc e f g)

both_none : (a : Result (Unit {0}) Stop) → both a (Ok tt) ≡ a
both_none (Ok tt) = refl
both_none (Err e) = refl

check_both : {A : Type 0} (a : Result A Stop) (r : Result (List A) Stop) → checked (and_all (alone a) r) ≡ both (checked a) (checked r)
check_both (Ok x) (Ok us) = refl
check_both (Ok x) (Err f) = refl
check_both (Err e) (Ok us) = refl
check_both (Err e) (Err f) = refl

-- one more place
check_next : {X A : Type 0} (m : X → Result A Stop) (s : Result (Unit {0}) Stop) (xs : List X) (i : ℕ) (x : X) → i < length xs → x ≡ get_or xs i x
    → both (both s (checked (m x))) (checked (all_of m (drop (i + 1) xs))) ≡ both s (checked (all_of m (drop i xs)))
check_next m s xs i x within is =
    both_assoc s (checked (m x)) (checked (all_of m (drop (i + 1) xs)))
    ∙ ap (both s) (sym (check_both (m x) (all_of m (drop (i + 1) xs))) ∙ ap (λ y. checked (all_of m (y ∷ drop (i + 1) xs))) is ∙ ap (λ ys. checked (all_of m ys)) (sym (drop_more xs i x within)))

pub check_more : {X A : Type 0} (m : X → Result A Stop) (s : Result (Unit {0}) Stop) (xs : List X) (i : ℕ) (x : X) (w : Result (Unit {0}) Stop) → i < length xs → x ≡ get_or xs i x
    → both s (checked (all_of m (drop i xs))) ≡ w → both (both s (checked (m x))) (checked (all_of m (drop (i + 1) xs))) ≡ w
check_more m s xs i x w within is h = check_next m s xs i x within is ∙ h

pub check_done : {X A : Type 0} (m : X → Result A Stop) (s : Result (Unit {0}) Stop) (xs : List X) (i : ℕ) (w : Result (Unit {0}) Stop) → length xs ≤ i → both s (checked (all_of m (drop i xs))) ≡ w → s ≡ w
check_done m s xs i w past h = sym (both_none s) ∙ ap (λ ys. both s (checked (all_of m ys))) (sym (drop_all i xs past)) ∙ h

-- what is made of the answers has the same errors
pub checked_made : {A B : Type 0} (f : A → B) (r : Result A Stop) → checked (and_then r (λ x. Ok (f x))) ≡ checked r
checked_made f (Ok x) = refl
checked_made f (Err e) = refl
