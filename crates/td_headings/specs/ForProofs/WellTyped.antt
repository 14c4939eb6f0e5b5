-- What the expressions of a catalogue are.
use Rattle.std.specs.Prelude.{◌≡◌, ℕ, length, Some, None, slice_get}
use Rattle.td_values.specs.Headings.{Header}
use Rattle.td_values.specs.declared.TypeKind.TheVariants as kind
use Rattle.td_syntax.specs.declared.tree.Expr.{Expr}
use Rattle.td_syntax.specs.declared.tree.Named.{Named}
use Rattle.td_schema.specs.Kinds.{Name}
use Rattle.td_schema.specs.Scopes.{nothing, within_tuple}
use Rattle.td_schema.specs.Written.{kind_columns}
use Rattle.td_schema.specs.declared.schema.Representation.{Representation}
use Rattle.td_typing.specs.Types.{Types}
use Rattle.td_typed_trees.specs.declared.tree.Typed.{Typed}
use Rattle.td_headings.specs.Catalogues.{CatalogueData}
use Rattle.td_headings.specs.Expressions.{IsTree, no_tuple}
use Rattle.td_headings.specs.declared.defined.Origin.{Origin}
use Rattle.td_headings.specs.declared.defined.Origin.TheVariants as origin
use Rattle.td_headings.specs.declared.defined.Test.TheVariants as test

-- what a relvar holds, or holds at first, has its heading
abbrev pub HasHeading : CatalogueData → Origin → Header → Type 0
HasHeading c (origin.Base ks None) h = Unit {0}
HasHeading c (origin.Base ks (Some u)) h = IsTree c no_tuple u (kind.Relation h)
HasHeading c (origin.Virtual u) h = IsTree c no_tuple u (kind.Relation h)

-- the CONSTRAINT of a possrep is a truth value over its components
pub record IsLimit (c : CatalogueData) (r : Representation) (u : Typed) : Type 0 where
  pub expr : Expr
  pub types : Types c.schema (within_tuple (kind_columns r.components) nothing) expr u kind.Boolean

pub record AllTyped (c : CatalogueData) : Type 0 where
  pub origin_each : length c.origins ≡ length c.schema.relvars
  pub limit_each : length c.limits ≡ length c.schema.possreps
  pub relvars : (n : ℕ) (o : Origin) (r : Named Header) → slice_get c.origins n ≡ Some o → slice_get c.schema.relvars n ≡ Some r → HasHeading c o r.value
  pub limits : (n : ℕ) (u : Typed) (r : Representation) → slice_get c.limits n ≡ Some (Some u) → slice_get c.schema.possreps n ≡ Some r → IsLimit c r u
  pub constraints : (n : ℕ) (x : Name) (u : Typed) → slice_get c.tests n ≡ Some (test.Constraint x u) → IsTree c no_tuple u kind.Boolean
