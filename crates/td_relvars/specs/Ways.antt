-- Which changes of a database can be taken back without memory.
use Rattle.std.specs.Prelude.{◌≡◌, ℕ, Ok}
use Rattle.td_values.specs.Rows.{RowsData}
use Rattle.td_relations.specs.Deltas.{DeltaData, inverse_of}
pub use Rattle.td_bases.specs.Ways.{LeadsBack, WayBackData}
use Rattle.td_semantics.specs.Databases.{DatabaseData, Stored, stored_relvars}
use Rattle.td_relvars.specs.Changed.{CanChange, changed}

-- it is for this change of what is stored at the place
abbrev pub LeadsBackFrom : Stored → ℕ → DeltaData → WayBackData → Type 0
LeadsBackFrom s n delta w = (r : RowsData) × (stored_relvars s n ≡ Ok r) × LeadsBack r delta w

-- it is for this change of the relvar at the place
abbrev pub LeadsBackAt : DatabaseData → ℕ → DeltaData → WayBackData → Type 0
LeadsBackAt d = LeadsBackFrom d.stored

-- the change was made of a relvar for which it was
pub record CanGoBack (d : DatabaseData) (n : ℕ) (delta : DeltaData) (w : WayBackData) : Type 0 where
  pub change : CanChange d n (inverse_of delta)
  pub before : RowsData
  pub made : stored_relvars d.stored n ≡ Ok (changed before delta)
  pub way : LeadsBack before delta w
