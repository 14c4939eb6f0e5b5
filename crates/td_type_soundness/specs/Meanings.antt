-- What an expression of a type may mean: a value of the type, or one of the errors of the language.
use Rattle.std.specs.Prelude.{◌≡◌, ℕ, List, Option, Some, Result, Ok, Err, slice_get}
use Rattle.std.specs.List.{All}
use Rattle.td_values.specs.Data.{Datum, Attrs, items_of}
use Rattle.td_values.specs.Headings.{Header}
use Rattle.td_values.specs.Rows.{RowsData}
use Rattle.td_values.specs.View.{ty_of}
use Rattle.td_values.specs.Whole.{type_of}
use Rattle.td_values.specs.declared.TypeKind.{TypeKind}
use Rattle.td_values.specs.declared.TypeKind.TheVariants as kind
use Rattle.td_tuples.specs.Parts.{Fits}
use Rattle.td_schema.specs.Kinds.{Name}
use Rattle.td_schema.specs.Schemas.{SchemaData}
use Rattle.td_schema.specs.Scopes.{Scope}
use Rattle.td_schema.specs.declared.schema.Representation.{Representation}
use Rattle.td_schema.specs.declared.scope.Meant.{Meant}
use Rattle.td_schema.specs.declared.scope.Meant.TheVariants.{Local as local, Relvar as relvar}
use Rattle.td_algebra.specs.declared.errors.Stop.{Stop}
use Rattle.td_algebra.specs.declared.errors.Stop.TheVariants.{Untyped}
use Rattle.td_meaning.specs.Mean.{Names, Relvars, Selection}
use Rattle.td_type_soundness.specs.Values.{IsValue, AreAttributes, AreComponentsOf, AreValues}

-- an error of the language, and not that there is no meaning
abbrev pub IsError : Stop → Type 0
IsError e = e ≡ Untyped → ⊥

-- an answer of which P holds, or an error
abbrev pub OrError : {A : Type 0} → (A → Type 0) → Result A Stop → Type 0
OrError P (Ok a) = P a
OrError P (Err e) = IsError e

-- a value of the kind
abbrev pub HasKind : SchemaData → TypeKind → Datum → Type 0
HasKind s k d = (type_of d ≡ ty_of k) × IsValue s d

-- such a value, or an error
abbrev pub GivesValue : SchemaData → TypeKind → Result Datum Stop → Type 0
GivesValue s k r = OrError (HasKind s k) r

-- a tuple of the heading
abbrev pub IsTupleOver : SchemaData → Header → Attrs → Type 0
IsTupleOver s h t = Fits h t × AreAttributes s t

-- a relation of the heading
pub record IsRelationOver (s : SchemaData) (h : Header) (r : RowsData) : Type 0 where
  pub heading : r.heading ≡ h
  pub tuples : All (IsTupleOver s h) r.tuples

-- such a relation, or an error
abbrev pub GivesRelation : SchemaData → Header → Result RowsData Stop → Type 0
GivesRelation s h r = OrError (IsRelationOver s h) r

-- what a name stands for is what typing takes it for
abbrev pub IsMeant : SchemaData → Relvars → Meant → Option Datum → Type 0
IsMeant s relvars (local k) o = (d : Datum) × (o ≡ Some d) × HasKind s k d
IsMeant s relvars (relvar n h) o = GivesRelation s h (relvars n)

abbrev pub AreMeant : SchemaData → Relvars → Scope → Names → Type 0
AreMeant s relvars scope names = (x : Name) (m : Meant) → scope x ≡ Some m → IsMeant s relvars m (names x)

-- each selector makes values of its type of components of its types
abbrev pub Selects : SchemaData → Selection → Type 0
Selects s selection = (n : ℕ) (r : Representation) (ds : List Datum) → slice_get s.possreps n ≡ Some r → AreComponentsOf r (items_of ds) → AreValues s (items_of ds) → GivesValue s (kind.User r.possrep.ty) (selection n ds)
