-- What a relvar has, told by its place.
use Rattle.std.specs.Prelude.{◌≡◌, ℕ, true, List, Some, Result, Ok, Err, slice_get}
use Rattle.td_values.specs.Headings.{Header}
use Rattle.td_values.specs.Rows.{RowsData}
use Rattle.td_values.specs.declared.TypeKind.TheVariants as kind
use Rattle.td_schema.specs.Schemas.{relvar_named}
use Rattle.td_typed_trees.specs.declared.expression.Expression.{Expression}
use Rattle.td_typed_trees.specs.declared.tree.Typed.TheVariants as t
use Rattle.td_headings.specs.Catalogues.{CatalogueData}
use Rattle.td_headings.specs.Reached.{is_base}
use Rattle.td_semantics.specs.Trees.{IsIn, all_relvars}
use Rattle.td_semantics.specs.Answers.{SaysRelation}
use Rattle.td_semantics.specs.Databases.{DatabaseData, stored_relvars}
use Rattle.td_semantics.specs.declared.answer.Answer.{Answer}
use Rattle.td_semantics.specs.declared.error.RelvarError.{RelvarError}
use Rattle.td_semantics.specs.declared.error.RelvarError.TheVariants.{Unknown, OutOfMemory}

-- a base relvar is at the place, with its relation
pub record IsStoredAt (d : DatabaseData) (n : ℕ) : Type 0 where
  pub is_real : is_base (slice_get d.catalogue.origins n) ≡ true
  pub relation : RowsData
  pub has : stored_relvars d.stored n ≡ Ok relation

-- the relvar of this name is there, and has the heading
abbrev pub IsRelvar : CatalogueData → List ℕ → ℕ → Header → Type 0
IsRelvar c x n h = relvar_named c.schema x ≡ Some (n, record { name = x; value = h })

-- the expression is the relvar's name
pub record IsNameOf (c : CatalogueData) (n : ℕ) (h : Header) (x : Expression) : Type 0 where
  pub tree : x.tree ≡ t.Relvar n
  pub kind_ : x.kind ≡ kind.Relation h
  pub within : IsIn c x

-- what the relvar at the place has, which is there
abbrev pub TellsAt : DatabaseData → ℕ → Result (Answer RowsData) RelvarError → Type 0
TellsAt d n (Ok a) = SaysRelation a (all_relvars d.catalogue (stored_relvars d.stored) n)
TellsAt d n (Err Unknown) = ⊥
TellsAt d n (Err OutOfMemory) = Unit {0}
