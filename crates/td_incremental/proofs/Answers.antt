-- Answers before and after a relation gained tuples, and over these alone.
use Rattle.std.proofs.Common.{Result, Ok, Err, ◌≡◌}
use Rattle.td_algebra.specs.Raising.{and_then}
use Rattle.td_algebra.specs.declared.errors.Stop.{Stop}

-- values of which P holds, or one error
abbrev pub Follow : {A : Type 0} → (A → A → Type 0) → Result A Stop → Result A Stop → Type 0
Follow P (Ok w) (Ok b) = P w b
Follow P (Ok w) (Err f) = ⊥
Follow P (Err e) (Ok b) = ⊥
Follow P (Err e) (Err f) = e ≡ f

-- where the first is a value
abbrev pub Grown : {A : Type 0} → (A → A → A → Type 0) → Result A Stop → Result A Stop → Result A Stop → Type 0
Grown P (Ok a) y z = Follow (P a) y z
Grown P (Err e) y z = Unit {0}

module _ {A B : Type 0} (P : A → A → A → Type 0) (Q : B → B → B → Type 0) where
  pub one_error : (x : Result B Stop) (e f : Stop) → e ≡ f → Grown Q x (Err e) (Err f)
  one_error (Ok b) e f same = same
  one_error (Err g) e f same = tt

  -- what is made of such values
  pub then_grown : (f g h : A → Result B Stop) (x y z : Result A Stop) → Grown P x y z → ((a w b : A) → P a w b → Grown Q (f a) (g w) (h b)) → Grown Q (and_then x f) (and_then y g) (and_then z h)
  then_grown f g h (Ok a) (Ok w) (Ok b) p each = each a w b p
  then_grown f g h (Ok a) (Ok w) (Err k) p each = absurd p
  then_grown f g h (Ok a) (Err e) (Ok b) p each = absurd p
  then_grown f g h (Ok a) (Err e) (Err k) p each = one_error (f a) e k p
  then_grown f g h (Err e) y z p each = tt

-- what is made of a value that is the same
pub then_same : {A B : Type 0} (Q : B → B → B → Type 0) (f g h : A → Result B Stop) (x : Result A Stop) → ((a : A) → Grown Q (f a) (g a) (h a)) → Grown Q (and_then x f) (and_then x g) (and_then x h)
then_same Q f g h (Ok a) each = each a
then_same Q f g h (Err e) each = tt
