-- The errors of the language among those that stop evaluation, and what is told of a value or of one of them.
use Rattle.std.specs.Prelude.{◌≡◌, Result, Ok, Err}
use Rattle.td_values.specs.declared.raises.Raise.{Raise}
use Rattle.td_algebra.specs.declared.errors.Stop.{Stop}
use Rattle.td_algebra.specs.declared.errors.Stop.TheVariants as stop
use Rattle.td_semantics.specs.declared.failure.Failure.{Failure}
use Rattle.td_semantics.specs.declared.failure.Failure.TheVariants.{Raised, OutOfMemory}

abbrev pub stop_of : Raise → Stop
stop_of = stop.Error

-- what is meant, a value or an error; want of memory tells nothing
abbrev pub Tells : {A : Type 0} → Result A Failure → Result A Stop → Type 0
Tells (Ok a) m = m ≡ Ok a
Tells (Err (Raised e)) m = m ≡ Err (stop_of e)
Tells (Err OutOfMemory) m = Unit {0}
