-- What is defined before more is.
use Rattle.std.specs.Prelude.{◌≡◌, ◌++◌, List, Some}
use Rattle.td_values.specs.Headings.{Header}
use Rattle.td_syntax.specs.declared.tree.Named.{Named}
use Rattle.td_schema.specs.declared.schema.Representation.{Representation}
use Rattle.td_schema.specs.declared.scope.Meant.{Meant}
use Rattle.td_schema.specs.Kinds.{Name}
use Rattle.td_schema.specs.Schemas.{SchemaData}
use Rattle.td_schema.specs.Scopes.{Scope}

-- the later one has what the earlier one has, and more behind it
pub record IsEarlier (early late : SchemaData) : Type 0 where
  pub possreps : List Representation
  pub relvars : List (Named Header)
  pub later_possreps : late.possreps ≡ early.possreps ++ possreps
  pub later_relvars : late.relvars ≡ early.relvars ++ relvars

-- what a name means in the first scope, it means in the second
abbrev pub KeepsNames : Scope → Scope → Type 0
KeepsNames s w = (x : Name) (m : Meant) → s x ≡ Some m → w x ≡ Some m
