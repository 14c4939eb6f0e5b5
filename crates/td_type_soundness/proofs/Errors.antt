-- Answers of which something holds, or errors of the language.
use Rattle.std.proofs.Common.{Bool, true, false, if◌then◌else◌, List, [], ◌∷◌, Result, Ok, Err, inl, inr, nat_le, refl, sym, subst}
use Rattle.td_values.specs.declared.raises.Raise.{Raise}
use Rattle.td_algebra.specs.declared.errors.Stop.{Stop}
use Rattle.td_algebra.specs.declared.errors.Stop.TheVariants.{Error}
use Rattle.td_algebra.specs.Raising.{all_of, alone, and_all, and_then}
use Rattle.td_algebra.specs.Stops.{lesser, stop_number}
use Rattle.td_algebra.proofs.Lists.{In}
use Rattle.td_operators.specs.Operators.{in_turn}
use Rattle.td_operators.specs.Values.{both}
use Rattle.td_type_soundness.specs.Meanings.{IsError, OrError}

pub error_is : (e : Raise) → IsError (Error e)
error_is e h = cc

-- what goes on with a value, and keeps an error
pub goes_on : {A B : Type 0} (P : A → Type 0) (Q : B → Type 0) (f : A → Result B Stop) (r : Result A Stop) → OrError P r → ((a : A) → P a → OrError Q (f a)) → OrError Q (and_then r f)
goes_on P Q f (Ok a) p next = next a p
goes_on P Q f (Err e) p next = p

pub both_are : {A B : Type 0} (P : A → Type 0) (Q : B → Type 0) (a : Result A Stop) (b : Result B Stop) → OrError P a → OrError Q b → OrError (λ (p : A × B). P p.0 × Q p.1) (both a b)
both_are P Q (Ok x) (Ok y) p q = (p, q)
both_are P Q (Ok x) (Err e) p q = q
both_are P Q (Err e) b p q = p

-- ---- lists
-- P holds of each of these
abbrev pub Each : {A : Type 0} → (A → Type 0) → List A → Type 0
Each {A} P xs = (x : A) → In x xs → P x

pub with_first : {A : Type 0} (P : A → Type 0) (x : A) (xs : List A) → P x → Each P xs → Each P (x ∷ xs)
with_first P x xs p each y (inl e) = subst P (sym e) p
with_first P x xs p each y (inr h) = each y h

-- in turn
pub turn_is : {X A : Type 0} (P : A → Type 0) (f : X → Result A Stop) (xs : List X) → Each (λ x. OrError P (f x)) xs → OrError (Each P) (in_turn f xs)
turn_is P f [] each = λ a h. absurd h
turn_is P f (x ∷ xs) each =
    goes_on P (Each P) (λ a. and_then (in_turn f xs) (λ rest. Ok (a ∷ rest))) (f x) (each x (inl refl)) (λ a p.
    goes_on (Each P) (Each P) (λ rest. Ok (a ∷ rest)) (in_turn f xs) (turn_is P f xs (λ y h. each y (inr h))) (λ rest q. with_first P a rest p q))

-- ---- all of them, or the least error
either_is : (b : Bool) (e f : Stop) → IsError e → IsError f → IsError (if b then e else f)
either_is true e f p q = p
either_is false e f p q = q

pub lesser_is : (e f : Stop) → IsError e → IsError f → IsError (lesser e f)
lesser_is e f p q = either_is (nat_le (stop_number e) (stop_number f)) e f p q

one_more : {A : Type 0} (P : A → Type 0) (a : Result A Stop) (b : Result (List A) Stop) → OrError P a → OrError (Each P) b → OrError (Each P) (and_all (alone a) b)
one_more P (Ok x) (Ok xs) p q = with_first P x xs p q
one_more P (Ok x) (Err e) p q = q
one_more P (Err e) (Ok xs) p q = p
one_more P (Err e) (Err f) p q = lesser_is e f p q

pub all_are : {X A : Type 0} (P : A → Type 0) (f : X → Result A Stop) (xs : List X) → Each (λ x. OrError P (f x)) xs → OrError (Each P) (all_of f xs)
all_are P f [] each = λ a h. absurd h
all_are P f (x ∷ xs) each = one_more P (f x) (all_of f xs) (each x (inl refl)) (all_are P f xs (λ y h. each y (inr h)))
