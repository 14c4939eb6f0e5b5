-- What texts are those of a site: each is told of the history of what it holds.
use Rattle.std.specs.Prelude.{◌≡◌, ℕ, List, length, Ok, Err}
use Rattle.td_values.specs.Rows.{RowsData}
use Rattle.td_values.specs.declared.raises.Raise.{Raise}
use Rattle.td_semantics.specs.Raises.{stop_of}
use Rattle.td_semantics.specs.Databases.{DatabaseData}
use Rattle.td_semantics.specs.declared.outcome.Outcome.{Outcome}
use Rattle.td_stamps.specs.declared.entry.Stamp.{Stamp}
use Rattle.td_replica.specs.Seen.{Seen, AreOutcomes, IsTold, Leaves}
use Rattle.td_listings.specs.Texts.{listing_of, log_of, relvar_value}
use Rattle.td_listings.specs.Tables.{table_of}

pub record IsListing (s : Seen) (text : List ℕ) : Type 0 where
  pub outcomes : List (Stamp × Outcome)
  pub database : DatabaseData
  pub told : IsTold s outcomes database
  pub lines : text ≡ listing_of database outcomes (length s.entries)

pub record IsLog (s : Seen) (text : List ℕ) : Type 0 where
  pub outcomes : List (Stamp × Outcome)
  pub told : AreOutcomes s outcomes
  pub lines : text ≡ log_of s.entries outcomes

-- the table of the relvar at a place
pub record IsTable (s : Seen) (n : ℕ) (text : List ℕ) : Type 0 where
  pub database : DatabaseData
  pub relation : RowsData
  pub leaves : Leaves s database
  pub value : relvar_value database n ≡ Ok relation
  pub records : text ≡ table_of relation

-- evaluating it raises an error
pub record IsRaised (s : Seen) (n : ℕ) (e : Raise) : Type 0 where
  pub database : DatabaseData
  pub leaves : Leaves s database
  pub raises : relvar_value database n ≡ Err (stop_of e)
