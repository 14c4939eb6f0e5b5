-- Tuples that are told where their target has none.
use Rattle.std.specs.Prelude.{◌≡◌, ◌==◌, if◌then◌else◌, ℕ, Some, Ok, slice_get}
use Rattle.std.specs.FinSet as set
use Rattle.td_values.specs.Data.{no_attrs}
use Rattle.td_values.specs.Headings.{Header}
use Rattle.td_values.specs.Rows.{RowsData}
use Rattle.td_syntax.specs.declared.tree.Named.{Named}
use Rattle.td_relations.specs.Sets.{IsRelation}
use Rattle.td_algebra.specs.Raising.{and_then}
use Rattle.td_headings.specs.Catalogues.{CatalogueData}
use Rattle.td_headings.specs.declared.statement.TypedAssignment.{TypedAssignment}
use Rattle.td_meaning.specs.Mean.{Relvars}
use Rattle.td_operators.specs.Values.{rows_of}
use Rattle.td_type_soundness.specs.Meanings.{IsRelationOver}
use Rattle.td_semantics.specs.Trees.{tree_means}

-- the relvars, but the one at n with this relation, which is empty
abbrev pub emptied : ℕ → RowsData → Relvars → Relvars
emptied n e relvars m = if m == n then Ok e else relvars m

-- s is what the source means over the relvars, its target emptied
pub record IsOverNothing (c : CatalogueData) (relvars : Relvars) (a : TypedAssignment) (s : RowsData) : Type 0 where
  pub relvar : Named Header
  pub there : slice_get c.schema.relvars a.target ≡ Some relvar
  pub nothing : RowsData
  pub empty : IsRelation relvar.value set.empty nothing
  pub means : and_then (tree_means c (emptied a.target nothing relvars) a.source.tree no_attrs) rows_of ≡ Ok s
  pub over : IsRelationOver c.schema relvar.value s
