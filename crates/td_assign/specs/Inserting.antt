-- Insertions that put in each of their tuples.
use Rattle.std.specs.Prelude.{◌≡◌, ℕ, List, [], ◌∷◌}
use Rattle.td_relations.specs.Deltas.{DeltaData}
use Rattle.td_headings.specs.Catalogues.{CatalogueData}
use Rattle.td_insertions.specs.Insertions.{Inserts}

-- the text inserts the same tuples whatever the relvars have, and these changes put in each of them
pub record PutsIn (c : CatalogueData) (dialect : ℕ) (text : List ℕ) (ds : List (ℕ × DeltaData)) : Type 0 where
  pub relvar : ℕ
  pub delta : DeltaData
  pub one : ds ≡ (relvar, delta) ∷ []
  pub inserts : Inserts c dialect text relvar delta.inserted
