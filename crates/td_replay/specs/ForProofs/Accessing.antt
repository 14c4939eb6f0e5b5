-- What is kept of a statement tells what it accesses.
use Rattle.std.specs.Prelude.{◌≡◌, ◌∷◌, [], ℕ, List, IsTrue}
use Rattle.td_values.specs.Rows.{RowsData}
use Rattle.td_relations.specs.Deltas.{DeltaData}
use Rattle.td_accesses.specs.Covering.{KeepsWithin}
use Rattle.td_assign.specs.Inserting.{PutsIn}
use Rattle.td_assign.specs.declared.ran.Ran.{Ran}
use Rattle.td_headings.specs.Catalogues.{CatalogueData}

-- the record is of an insertion, whose change put these tuples into the relvar, and no others
pub record IsInsertionIn (r : Ran) (n : ℕ) (s : RowsData) : Type 0 where
  pub puts : IsTrue r.puts_in_all
  pub delta : DeltaData
  pub one : r.delta.items ≡ (n, delta) ∷ []
  pub same : s ≡ delta.inserted

-- it is kept of the text's step
pub record IsRecordOf (c : CatalogueData) (k : ℕ) (a : List ℕ) (r : Ran) : Type 0 where
  pub within : KeepsWithin c k a r.names.footprint.items r.names.targets.items
  pub puts : IsTrue r.puts_in_all → PutsIn c k a r.delta.items
