-- Which definitions are well typed after others, and what they add. Types, possreps, relvars and constraints are four
-- name spaces; in each a name is defined once, and a definition names only earlier ones.
use Rattle.std.specs.Prelude.{◌≡◌, Bool, false, length, List, [], ◌∷◌, ◌++◌, map, Option, Some, None, unwrap_or}
use Rattle.std.specs.List.{list_any}
use Rattle.td_values.specs.Headings.{Header}
use Rattle.td_values.specs.declared.TypeKind.{TypeKind}
use Rattle.td_values.specs.declared.TypeKind.TheVariants as kind
use Rattle.td_syntax.specs.declared.tree.Attributes.{Attributes}
use Rattle.td_syntax.specs.declared.tree.Expr.{Expr}
use Rattle.td_syntax.specs.declared.tree.Named.{Named}
use Rattle.td_syntax.specs.declared.tree.TypeExpr.{TypeExpr}
use Rattle.td_syntax.specs.declared.script.Opening.{Opening}
use Rattle.td_syntax.specs.declared.script.Opening.TheVariants as opening
use Rattle.td_syntax.specs.declared.script.Definition.{Definition}
use Rattle.td_syntax.specs.declared.script.Definition.TheVariants as definition
use Rattle.td_schema.specs.Kinds.{Name}
use Rattle.td_schema.specs.Lists.{attributes_of}
use Rattle.td_schema.specs.Schemas.{relvar_named, possrep_named, type_named, same_text, begins_with_the, schema_with_relvar, schema_with_type}
use Rattle.td_schema.specs.Scopes.{Scope, nothing, relvars_of, within_tuple}
use Rattle.td_schema.specs.Written.{components_written, heading_written, kind_columns}
use Rattle.td_schema.specs.declared.schema.Representation.{Representation}
use Rattle.td_typing.specs.Types.{Types}
use Rattle.td_typed_trees.specs.declared.tree.Typed.{Typed}
use Rattle.td_headings.specs.Catalogues.{CatalogueData, nothing_defined}
use Rattle.td_headings.specs.declared.defined.Origin.{Origin}
use Rattle.td_headings.specs.declared.defined.Origin.TheVariants as origin
use Rattle.td_headings.specs.declared.defined.Test.{Test}
use Rattle.td_headings.specs.declared.defined.Test.TheVariants as test

-- an expression in which no tuple is in scope
abbrev pub names_of_relvars : CatalogueData → Scope
names_of_relvars c = relvars_of c.schema

-- ---- types

-- A possrep's CONSTRAINT is BOOLEAN; it sees the components and no relvar.
pub data TypesLimit (c : CatalogueData) (ks : List (Named TypeKind)) : Option Expr → Option Typed → Type 0 where
  no_limit : TypesLimit c ks None None
  limit : {a : Expr} {u : Typed} → Types c.schema (within_tuple (kind_columns ks) nothing) a u kind.Boolean → TypesLimit c ks (Some a) (Some u)

abbrev pub represented : Name → Name → List (Named TypeKind) → Representation
represented ty name ks = record { possrep = record { ty = ty; name = name }; components = ks }

abbrev pub with_type : CatalogueData → Representation → Option Typed → CatalogueData
with_type c r u = record { schema = schema_with_type c.schema r; limits = c.limits ++ u ∷ []; origins = c.origins; tests = c.tests }

-- ---- relvars

-- The value is a relation; of the heading that is written beside it, where one is.
pub data TypesOpening (c : CatalogueData) : Opening → Header → Option Typed → Type 0 where
  empty : {fs : List (Named TypeExpr)} {h : Header} → heading_written c.schema fs ≡ Some h → TypesOpening c (opening.Empty fs) h None
  init : {a : Expr} {u : Typed} {h : Header} → Types c.schema (names_of_relvars c) a u (kind.Relation h) → TypesOpening c (opening.Init None a) h (Some u)
  headed_init : {fs : List (Named TypeExpr)} {a : Expr} {u : Typed} {h : Header} → heading_written c.schema fs ≡ Some h → Types c.schema (names_of_relvars c) a u (kind.Relation h) → TypesOpening c (opening.Init (Some fs) a) h (Some u)

-- A key is an attribute list; one may contain or repeat another.
pub data AreKeys (h : Header) : List Attributes → List (List Name) → Type 0 where
  no_keys : AreKeys h [] []
  next_key : {a : Attributes} {ns : List Name} {as' : List Attributes} {ks : List (List Name)} → attributes_of a h ≡ Some ns → AreKeys h as' ks → AreKeys h (a ∷ as') (ns ∷ ks)

abbrev pub with_relvar : CatalogueData → Name → Header → Origin → List Test → CatalogueData
with_relvar c n h o ts = record { schema = schema_with_relvar c.schema n h; limits = c.limits; origins = c.origins ++ o ∷ []; tests = c.tests ++ ts }

-- the tests of the keys of the relvar that is defined next
abbrev pub key_tests : CatalogueData → List (List Name) → List Test
key_tests c ks = map (test.Key (length c.origins)) ks

-- ---- constraints

abbrev pub is_constraint : Name → Test → Bool
is_constraint n (test.Constraint m u) = same_text m n
is_constraint n (test.Key r ns) = false

abbrev pub with_constraint : CatalogueData → Name → Typed → CatalogueData
with_constraint c n u = record { schema = c.schema; limits = c.limits; origins = c.origins; tests = c.tests ++ test.Constraint n u ∷ [] }

-- ---- definitions

-- c, with the definition, is c2
pub data Defines (c : CatalogueData) : Definition → CatalogueData → Type 0 where
  -- A type without a possrep's name gives its own to it. A possrep's name does not begin with THE_.
  type_ : {n : Name} {m : Option Name} {xs : List (Named TypeExpr)} {a : Option Expr} {ks : List (Named TypeKind)} {u : Option Typed}
      → type_named c.schema n ≡ None → possrep_named c.schema (unwrap_or m n) ≡ None → begins_with_the (unwrap_or m n) ≡ false
      → components_written c.schema xs ≡ Some ks → TypesLimit c ks a u
      → Defines c (definition.Type n m xs a) (with_type c (represented n (unwrap_or m n) ks) u)
  base : {n : Name} {o : Opening} {as' : List Attributes} {h : Header} {u : Option Typed} {ks : List (List Name)}
      → relvar_named c.schema n ≡ None → TypesOpening c o h u → AreKeys h as' ks
      → Defines c (definition.Base n o as') (with_relvar c n h (origin.Base ks u) (key_tests c ks))
  virtual : {n : Name} {a : Expr} {u : Typed} {h : Header}
      → relvar_named c.schema n ≡ None → Types c.schema (names_of_relvars c) a u (kind.Relation h)
      → Defines c (definition.Virtual n a) (with_relvar c n h (origin.Virtual u) [])
  constraint : {n : Name} {a : Expr} {u : Typed}
      → list_any (is_constraint n) c.tests ≡ false → Types c.schema (names_of_relvars c) a u kind.Boolean
      → Defines c (definition.Constraint n a) (with_constraint c n u)

-- what definitions make of nothing
pub data Defined : CatalogueData → Type 0 where
  nothing_yet : Defined nothing_defined
  next_definition : {c d : CatalogueData} {x : Definition} → Defined c → Defines c x d → Defined d
