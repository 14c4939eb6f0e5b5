-- Answers that are gathered one by one.
use Rattle.std.specs.Prelude.{List, Option, None, Some, Result, Ok, Err}
use Rattle.td_algebra.specs.declared.errors.Fault.{Fault}
use Rattle.td_algebra.specs.declared.errors.Fault.TheVariants.{Raised, OutOfMemory, Wanting}
use Rattle.td_algebra.specs.declared.errors.Stop.{Stop}
use Rattle.td_algebra.specs.declared.errors.Stop.TheVariants.{Untyped}

-- what was gathered
abbrev pub so_far : {A : Type 0} → List A → Option Stop → Result (List A) Stop
so_far xs None = Ok xs
so_far xs (Some e) = Err e

-- what an answer means; where there is none any error serves
abbrev pub meaning_of : {A W : Type 0} → Result A (Fault W) → Result A Stop
meaning_of (Ok a) = Ok a
meaning_of (Err (Raised e)) = Err e
meaning_of (Err OutOfMemory) = Err Untyped
meaning_of (Err (Wanting w)) = Err Untyped

-- there is no answer
abbrev pub GivesUp : {W : Type 0} → Fault W → Type 0
GivesUp (Raised e) = ⊥
GivesUp OutOfMemory = Unit {0}
GivesUp (Wanting w) = Unit {0}
