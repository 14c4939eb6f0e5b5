-- Changes of relvars where they stand, taken back, and made one after the other.
use Rattle.std.specs.Prelude.{◌≡◌, ℕ, zero, suc, List, [], ◌∷◌, Option, None, Some, Ok}
use Rattle.td_values.specs.Rows.{RowsData}
use Rattle.td_relations.specs.Deltas.{DeltaData, inverse_of}
pub use Rattle.td_bases.specs.Bases.{changed}
use Rattle.td_semantics.specs.Databases.{Belongs, DatabaseData, Stored, stored_relvars}

abbrev pub changed_at : Option RowsData → DeltaData → Option RowsData
changed_at None d = None
changed_at (Some r) d = Some (changed r d)

-- what is stored, with the change of the relvar at the place
abbrev pub change : ℕ → DeltaData → Stored → Stored
change n d [] = []
change zero d (x ∷ xs) = changed_at x d ∷ xs
change (suc n) d (x ∷ xs) = x ∷ change n d xs

-- the database with it
abbrev pub with_change : ℕ → DeltaData → DatabaseData → DatabaseData
with_change n d old = record old { stored = change n d old.stored }

-- with each change made
abbrev pub redone : List (ℕ × DeltaData) → Stored → Stored
redone [] stored = stored
redone (p ∷ ds) stored = redone ds (change p.0 p.1 stored)

-- with each one taken back
abbrev pub inverses : List (ℕ × DeltaData) → List (ℕ × DeltaData)
inverses [] = []
inverses (p ∷ ds) = (p.0, inverse_of p.1) ∷ inverses ds

abbrev pub undone : List (ℕ × DeltaData) → Stored → Stored
undone ds stored = redone (inverses ds) stored

-- a relation of the change's heading is at the place, and what the change makes of it belongs there
pub record CanChange (d : DatabaseData) (n : ℕ) (delta : DeltaData) : Type 0 where
  pub before : RowsData
  pub has : stored_relvars d.stored n ≡ Ok before
  pub heading : delta.inserted.heading ≡ before.heading
  pub belongs : Belongs d.catalogue n (changed before delta)
