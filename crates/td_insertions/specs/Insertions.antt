-- Insertions: statements that put the same tuples into one relvar, whatever the relvars have.
use Rattle.std.specs.Prelude.{◌≡◌, ℕ, true, List, [], ◌∷◌, Some, Ok, slice_get}
use Rattle.td_values.specs.Headings.{Header}
use Rattle.td_values.specs.Rows.{AreRows, RowsData}
use Rattle.td_syntax.specs.declared.tree.Named.{Named}
use Rattle.td_relations.specs.Deltas.{DeltaData}
use Rattle.td_algebra.specs.Functions.{union_of}
use Rattle.td_headings.specs.Catalogues.{CatalogueData}
use Rattle.td_headings.specs.Reached.{is_base}
use Rattle.td_headings.specs.declared.statement.TypedStatement.{TypedStatement}
use Rattle.td_meaning.specs.Mean.{Relvars}
use Rattle.td_semantics.specs.Given.{gives, nothing_given}
use Rattle.td_semantics.specs.Sources.{given_over}
use Rattle.td_semantics.specs.Steps.{IsRead}

-- the statement gives the base relvar at n what it has united with s, whatever it has and the other relvars have
pub record IsInsertion (c : CatalogueData) (x : TypedStatement) (n : ℕ) (s : RowsData) : Type 0 where
  pub relvar : Named Header
  pub base : is_base (slice_get c.origins n) ≡ true
  pub there : slice_get c.schema.relvars n ≡ Some relvar
  pub heading : s.heading ≡ relvar.value
  pub rows : AreRows s.heading s.tuples
  pub adds : (relvars : Relvars) (r : RowsData) → relvars n ≡ Ok r → r.heading ≡ s.heading → given_over c relvars x ≡ Ok (gives n (union_of r s) nothing_given)

-- the text in this dialect is such a statement
pub record Inserts (c : CatalogueData) (dialect : ℕ) (text : List ℕ) (n : ℕ) (s : RowsData) : Type 0 where
  pub statement : TypedStatement
  pub reads : IsRead c dialect text statement
  pub is : IsInsertion c statement n s

-- the statement is an insertion, and these changes put in each of its tuples
pub record PutsInAll (c : CatalogueData) (x : TypedStatement) (ds : List (ℕ × DeltaData)) : Type 0 where
  pub relvar : ℕ
  pub delta : DeltaData
  pub one : ds ≡ (relvar, delta) ∷ []
  pub is : IsInsertion c x relvar delta.inserted
