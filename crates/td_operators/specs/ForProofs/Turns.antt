-- What a list comes to in turn, behind what was found.
use Rattle.std.specs.Prelude.{List, [], ◌∷◌, ◌++◌, Result, Ok}
use Rattle.td_algebra.specs.declared.errors.Stop.{Stop}
use Rattle.td_algebra.specs.Raising.{and_then}

abbrev pub turn : {X A : Type 0} → (X → Result A Stop) → List A → List X → Result (List A) Stop
turn f done [] = Ok done
turn f done (x ∷ xs) = and_then (f x) (λ a. turn f (done ++ a ∷ []) xs)
