-- Parts of tuples that a relvar lost, and the relvar that refers to it by them.
use Rattle.std.specs.Prelude.{◌≡◌, Bool, Ok}
use Rattle.td_values.specs.Rows.{RowsData}
use Rattle.td_algebra.specs.Functions.{matching_of, not_matching_of}
use Rattle.td_meaning.specs.Mean.{Relvars}
use Rattle.td_incremental.specs.Laws.{has_none}
use Rattle.td_integrity.specs.ForProofs.Tested.{HasRelation}
use Rattle.td_integrity.specs.declared.losses.Losses.{Losses}

-- both relvars have relations
pub record AreReferring (l : Losses) (relvars : Relvars) : Type 0 where
  pub other : HasRelation (relvars l.referred)
  pub one : HasRelation (relvars l.referring)

-- b tells whether no tuple of the one has a part that no tuple of the other has now
abbrev pub IsToldOf : Losses → Relvars → Bool → Type 0
IsToldOf l relvars b = (r s : RowsData) → relvars l.referring ≡ Ok r → relvars l.referred ≡ Ok s → b ≡ has_none (matching_of (not_matching_of l.parts s) r)
