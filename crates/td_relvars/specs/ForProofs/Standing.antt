-- What stands at a place.
use Rattle.std.specs.Prelude.{◌≡◌, ℕ, Ok}
use Rattle.td_values.specs.Headings.{Header}
use Rattle.td_values.specs.Rows.{RowsData}
use Rattle.td_semantics.specs.Databases.{Stored, stored_relvars}

-- a relation of the heading
pub record HasOf (stored : Stored) (n : ℕ) (h : Header) : Type 0 where
  pub relation : RowsData
  pub has : stored_relvars stored n ≡ Ok relation
  pub heading : h ≡ relation.heading
