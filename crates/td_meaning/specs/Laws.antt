-- The laws of meaning.
use Rattle.std.specs.Prelude.{◌≡◌, ◌⊎◌, ℕ, List, None, Result, Err}
use Rattle.td_typed_trees.specs.declared.tree.Typed.{Typed}
use Rattle.td_algebra.specs.declared.errors.Stop.{Stop}
use Rattle.td_algebra.specs.declared.errors.Stop.TheVariants.{Untyped}
use Rattle.td_meaning.specs.Mean.{Names, Relvars, Selection, mean}

-- each name stands for nothing among the first, or for the same among both
abbrev pub AreFewer : Names → Names → Type 0
AreFewer few names = (x : List ℕ) → (few x ≡ None) ⊎ (few x ≡ names x)

-- a value or an error of the language, which stays where the second is asked
abbrev pub IsUntypedOrSame : {A : Type 0} → Result A Stop → Result A Stop → Type 0
IsUntypedOrSame w v = (w ≡ Err Untyped) ⊎ (w ≡ v)

-- what an expression means where fewer names stand for something it means where more do, unless it wants one of these
abbrev pub MeaningByNames : Type 0
MeaningByNames = (relvars : Relvars) (selection : Selection) (a : Typed) (few names : Names) → AreFewer few names → IsUntypedOrSame (mean relvars selection a few) (mean relvars selection a names)
