-- Whether a relation is within the part of another one.
use Rattle.std.specs.Prelude.{ℕ, List, Result}
use Rattle.td_values.specs.Data.{Datum, boolean}
use Rattle.td_algebra.specs.declared.errors.Stop.{Stop}
use Rattle.td_algebra.specs.Functions.{project_of}
use Rattle.td_algebra.specs.Raising.{and_then}
use Rattle.td_operators.specs.Operators.{if_alike, is_subset}
use Rattle.td_operators.specs.Values.{rows_of}

unfoldable pub within_part : List (List ℕ) → Datum → Datum → Result Datum Stop
within_part names d e = and_then (rows_of e) (λ s. and_then (rows_of d) (λ r. if_alike r (project_of names s) (boolean (is_subset r (project_of names s)))))
