-- Changes between two states of a database, and their exact difference: one change for each relvar that differs, and
-- for no other.
use Rattle.std.specs.Prelude.{◌≡◌, ℕ, List, Ok}
use Rattle.std.specs.List.{AllPairs, Contains}
use Rattle.td_values.specs.Rows.{AreRows, RowsData}
use Rattle.td_relations.specs.Deltas.{DeltaData, IsDifference}
use Rattle.td_meaning.specs.Mean.{Relvars}

-- this change leads from what the relvar has to what it has then, which may be the same: both relations are of one
-- heading, and their tuples ascend
pub record ChangesBy (old new : Relvars) (n : ℕ) (d : DeltaData) : Type 0 where
  pub before : RowsData
  pub after : RowsData
  pub was : old n ≡ Ok before
  pub is : new n ≡ Ok after
  pub one_heading : before.heading ≡ after.heading
  pub was_rows : AreRows before.heading before.tuples
  pub is_rows : AreRows after.heading after.tuples
  pub difference : IsDifference before after d

-- the relvar differs by this change
pub record Differs (old new : Relvars) (n : ℕ) (d : DeltaData) : Type 0 where
  pub change : ChangesBy old new n d
  pub apart : change.before ≡ change.after → ⊥

-- one change for a relvar, each such as is asked of it; what has none stays as it is
pub record AreListed (Listed : ℕ → DeltaData → Type 0) (old new : Relvars) (ds : List (ℕ × DeltaData)) : Type 0 where
  pub once : AllPairs (λ (p q : ℕ × DeltaData). p.0 ≡ q.0 → ⊥) ds
  pub only : (p : ℕ × DeltaData) → Contains ds p → Listed p.0 p.1
  pub all : (n : ℕ) → ((d : DeltaData) → Contains ds (n, d) → ⊥) → new n ≡ old n

-- the changes lead from the one to the other; some may change nothing
abbrev pub LeadOver : Relvars → Relvars → List (ℕ × DeltaData) → Type 0
LeadOver old new ds = AreListed (ChangesBy old new) old new ds

abbrev pub AreDifferences : Relvars → Relvars → List (ℕ × DeltaData) → Type 0
AreDifferences old new ds = AreListed (Differs old new) old new ds
