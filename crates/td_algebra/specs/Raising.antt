-- Functions on tuples: their answers, and the least of the errors that they raise.
use Rattle.std.specs.Prelude.{◌≡◌, ◌≤◌, List, [], ◌∷◌, ◌++◌, Result, Ok, Err}
use Rattle.td_algebra.specs.declared.errors.Stop.{Stop}
use Rattle.td_algebra.specs.Stops.{stop_number, lesser}
use Rattle.td_algebra.specs.declared.errors.Fault.{Fault}
use Rattle.td_algebra.specs.declared.errors.Fault.TheVariants.{Raised, OutOfMemory, Wanting}

-- an answer that says the meaning, a value or an error; memory may be wanted, or what is not known yet
abbrev pub AnswersBy : {A B W : Type 0} → (A → B) → Result A (Fault W) → Result B Stop → Type 0
AnswersBy see (Ok a) m = m ≡ Ok (see a)
AnswersBy see (Err (Raised e)) m = m ≡ Err e
AnswersBy see (Err OutOfMemory) m = Unit {0}
AnswersBy see (Err (Wanting w)) m = Unit {0}

abbrev pub Answers : {A W : Type 0} → Result A (Fault W) → Result A Stop → Type 0
Answers r m = AnswersBy (λ a. a) r m

-- the answer where no error is raised, and else the least one; memory may be wanted, or what is not known yet
abbrev pub Unless : {B W : Type 0} → (Stop → Type 0) → (B → Type 0) → Result B (Fault W) → Type 0
Unless Raises P (Ok b) = ((e : Stop) → Raises e → ⊥) × P b
Unless Raises P (Err (Raised e)) = Raises e × ((f : Stop) → Raises f → stop_number e ≤ stop_number f)
Unless Raises P (Err OutOfMemory) = Unit {0}
Unless Raises P (Err (Wanting w)) = Unit {0}

-- an answer for which no memory is taken, where no error is raised, and else the least error
abbrev pub UnlessRaised : {B : Type 0} → (Stop → Type 0) → (B → Type 0) → Result B Stop → Type 0
UnlessRaised Raises P (Ok b) = ((e : Stop) → Raises e → ⊥) × P b
UnlessRaised Raises P (Err e) = Raises e × ((f : Stop) → Raises f → stop_number e ≤ stop_number f)

-- the answers of both, or the least error among theirs
abbrev pub and_all : {A : Type 0} → Result (List A) Stop → Result (List A) Stop → Result (List A) Stop
and_all (Ok xs) (Ok ys) = Ok (xs ++ ys)
and_all (Ok xs) (Err e) = Err e
and_all (Err e) (Ok ys) = Err e
and_all (Err e) (Err f) = Err (lesser e f)

abbrev pub alone : {A : Type 0} → Result A Stop → Result (List A) Stop
alone (Ok a) = Ok (a ∷ [])
alone (Err e) = Err e

-- the answers at all of these, or the least error among theirs
abbrev pub all_of : {X A : Type 0} → (X → Result A Stop) → List X → Result (List A) Stop
all_of m [] = Ok []
all_of m (x ∷ xs) = and_all (alone (m x)) (all_of m xs)

-- goes on with the value, or keeps the error
abbrev pub and_then : {A B : Type 0} → Result A Stop → (A → Result B Stop) → Result B Stop
and_then (Ok a) f = f a
and_then (Err e) f = Err e
