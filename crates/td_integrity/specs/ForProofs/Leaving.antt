-- Tuples that leave their parts to others where they are taken out.
use Rattle.std.specs.Prelude.{◌≡◌, ℕ, true, List}
use Rattle.std.specs.List.{Contains}
use Rattle.td_values.specs.Data.{Attrs}
use Rattle.td_tuples.specs.Parts.{cut}
use Rattle.td_relations.specs.Deltas.{DeltaData}
use Rattle.td_relations.specs.Sets.{Has}
use Rattle.td_typed_trees.specs.declared.expression.Expression.{Expression}
use Rattle.td_algebra.specs.KeyIndexes.{KeyIndexData}
use Rattle.td_algebra.specs.Keys.{shares_part}
use Rattle.td_headings.specs.Catalogues.{CatalogueData}
use Rattle.td_incremental.specs.References.{Refers}

-- a tuple of the index has t's part at its key
abbrev pub HasPartIn : KeyIndexData → Attrs → Type 0
HasPartIn x t = (u : Attrs) × Contains x.tuples u × (shares_part x.key t u ≡ true)

-- each tuple that is taken out has its part at these names in one that is put in
abbrev pub LeavesParts : List (List ℕ) → DeltaData → Type 0
LeavesParts names d = (t : Attrs) → Has d.deleted t → (u : Attrs) × Has d.inserted u × (cut names u ≡ cut names t)

-- the constraint refers to the relvar by names at which this is so
pub record KeepsReferences (c : CatalogueData) (change : ℕ × DeltaData) (x : Expression) : Type 0 where
  pub names : List (List ℕ)
  pub refers : Refers c change.0 names x.tree
  pub leaves : LeavesParts names change.1
