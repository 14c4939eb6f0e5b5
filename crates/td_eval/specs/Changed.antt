-- What is told of an expression that takes tuples out of a relvar, or puts changed ones in their place.
use Rattle.std.specs.Prelude.{◌≡◌, Option, None, Some, Result, Ok, Err}
use Rattle.td_values.specs.Rows.{RowsData}
use Rattle.td_relations.specs.Deltas.{DeltaData, IsDifference, applied}
use Rattle.td_relations.specs.Sets.{body, relation_of}
use Rattle.td_algebra.specs.declared.errors.Stop.{Stop}
use Rattle.td_semantics.specs.Raises.{stop_of}
use Rattle.td_semantics.specs.declared.failure.Failure.{Failure}
use Rattle.td_semantics.specs.declared.failure.Failure.TheVariants.{Raised, OutOfMemory}

-- the relation after the change
abbrev pub after : RowsData → DeltaData → RowsData
after r d = relation_of r.heading (applied (body r) d)

-- Where the relvar has r, the exact change from r to the relation that the expression means is told, or the error that
-- it raises. Of an expression of another form, and where memory is wanting, nothing is told.
abbrev pub TellsChanged : Result RowsData Stop → Result RowsData Stop → Result (Option DeltaData) Failure → Type 0
TellsChanged old m (Ok None) = Unit {0}
TellsChanged old m (Ok (Some d)) = (r : RowsData) × (old ≡ Ok r) × (m ≡ Ok (after r d)) × IsDifference r (after r d) d
TellsChanged old m (Err (Raised e)) = m ≡ Err (stop_of e)
TellsChanged old m (Err OutOfMemory) = Unit {0}
