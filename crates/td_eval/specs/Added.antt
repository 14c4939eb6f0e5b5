-- What is told of an expression that is a relvar united with more.
use Rattle.std.specs.Prelude.{◌≡◌, Option, None, Some, Result, Ok, Err}
use Rattle.td_values.specs.Rows.{RowsData}
use Rattle.td_algebra.specs.Functions.{union_of}
use Rattle.td_algebra.specs.declared.errors.Stop.{Stop}
use Rattle.td_semantics.specs.Raises.{stop_of}
use Rattle.td_semantics.specs.declared.failure.Failure.{Failure}
use Rattle.td_semantics.specs.declared.failure.Failure.TheVariants.{Raised, OutOfMemory}

-- Where the relvar has r, s is told of an expression that means r united with s; or the error that it raises. Of an
-- expression of another form, and where memory is wanting, nothing is told.
abbrev pub TellsAdded : Result RowsData Stop → Result RowsData Stop → Result (Option RowsData) Failure → Type 0
TellsAdded old m (Ok None) = Unit {0}
TellsAdded old m (Ok (Some s)) = (r : RowsData) × (old ≡ Ok r) × (m ≡ Ok (union_of r s)) × (s.heading ≡ r.heading)
TellsAdded old m (Err (Raised e)) = m ≡ Err (stop_of e)
TellsAdded old m (Err OutOfMemory) = Unit {0}
