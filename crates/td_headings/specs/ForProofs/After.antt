-- What a definition makes of what is defined: a function that decides `Defines`.
use Rattle.std.specs.Prelude.{not, List, [], Option, Some, None, unwrap_or, is_none}
use Rattle.std.specs.List.{list_any}
use Rattle.td_values.specs.Headings.{Header}
use Rattle.td_values.specs.declared.TypeKind.{TypeKind}
use Rattle.td_syntax.specs.declared.tree.Attributes.{Attributes}
use Rattle.td_syntax.specs.declared.tree.Expr.{Expr}
use Rattle.td_syntax.specs.declared.tree.Named.{Named}
use Rattle.td_syntax.specs.declared.tree.TypeExpr.{TypeExpr}
use Rattle.td_syntax.specs.declared.script.Opening.{Opening}
use Rattle.td_syntax.specs.declared.script.Opening.TheVariants as opening
use Rattle.td_syntax.specs.declared.script.Definition.{Definition}
use Rattle.td_syntax.specs.declared.script.Definition.TheVariants as definition
use Rattle.td_schema.specs.Kinds.{Name, is_boolean, relation_heading, same_heading}
use Rattle.td_schema.specs.Lists.{attributes_of}
use Rattle.td_schema.specs.declared.schema.Representation.{Representation}
use Rattle.td_schema.specs.Results.{where_some, where_true}
use Rattle.td_schema.specs.Schemas.{SchemaData, relvar_named}
use Rattle.td_schema.specs.ForProofs.Additions.{may_add}
use Rattle.td_schema.specs.Scopes.{nothing, relvars_of, within_tuple}
use Rattle.td_schema.specs.Written.{components_written, heading_written, kind_columns}
use Rattle.td_typed_trees.specs.declared.tree.Typed.{Typed}
use Rattle.td_typed_trees.specs.declared.tree.Typing.{Typing}
use Rattle.td_typing.specs.ForProofs.Infer.{each, infer}
use Rattle.td_headings.specs.Catalogues.{CatalogueData}
use Rattle.td_headings.specs.Definitions.{represented, with_type, with_relvar, key_tests, is_constraint, with_constraint}
use Rattle.td_headings.specs.declared.defined.Origin.{Origin}
use Rattle.td_headings.specs.declared.defined.Origin.TheVariants as origin
use Rattle.td_headings.specs.declared.defined.Test.{Test}

abbrev pub Value : Type 0
Value = Typed × Header

-- the tree of a condition
unfoldable pub truth_of : Typing → Option Typed
truth_of t = where_true (is_boolean t.kind) t.tree

-- the tree and the heading of a relation
unfoldable pub value_of : Typing → Option Value
value_of t = where_some (relation_heading t.kind) (λ h. Some (t.tree, h))

unfoldable pub limit_after : SchemaData → List (Named TypeKind) → Expr → Option Typed
limit_after s ks a = where_some (infer s a (within_tuple (kind_columns ks) nothing)) truth_of

abbrev pub limits_after : SchemaData → List (Named TypeKind) → Option Expr → Option (Option Typed)
limits_after s ks None = Some None
limits_after s ks (Some a) = where_some (limit_after s ks a) (λ u. Some (Some u))

unfoldable pub value_after : SchemaData → Expr → Option Value
value_after s a = where_some (infer s a (relvars_of s)) value_of

unfoldable pub condition_after : SchemaData → Expr → Option Typed
condition_after s a = where_some (infer s a (relvars_of s)) truth_of

-- the value that a heading is written beside has it
abbrev pub beside : Header → Value → Option (Header × Option Typed)
beside g v = where_true (same_heading g v.1) (v.1, Some v.0)

abbrev pub opening_after : SchemaData → Opening → Option (Header × Option Typed)
opening_after s (opening.Empty fs) = where_some (heading_written s fs) (λ h. Some (h, None))
opening_after s (opening.Init None a) = where_some (value_after s a) (λ v. Some (v.1, Some v.0))
opening_after s (opening.Init (Some fs) a) = where_some (heading_written s fs) (λ g. where_some (value_after s a) (beside g))

abbrev pub keys_after : Header → List Attributes → Option (List (List Name))
keys_after h as' = each (λ a. attributes_of a h) [] as'

-- with a relvar whose name is new
unfoldable pub relvar_after : CatalogueData → Name → Header → Origin → List Test → Option CatalogueData
relvar_after c n h o ts = where_true (is_none (relvar_named c.schema n)) (with_relvar c n h o ts)

-- with a type that may be added
unfoldable pub possrep_after : CatalogueData → Representation → Option Typed → Option CatalogueData
possrep_after c r u = where_true (may_add c.schema r) (with_type c r u)

unfoldable pub type_after : CatalogueData → Name → Name → List (Named TypeExpr) → Option Expr → Option CatalogueData
type_after c n m xs a =
    where_some (components_written c.schema xs) (λ ks. where_some (limits_after c.schema ks a) (λ u. possrep_after c (represented n m ks) u))

unfoldable pub base_after : CatalogueData → Name → Opening → List Attributes → Option CatalogueData
base_after c n o as' =
    where_some (opening_after c.schema o) (λ p. where_some (keys_after p.0 as') (λ ks. relvar_after c n p.0 (origin.Base ks p.1) (key_tests c ks)))

unfoldable pub virtual_after : CatalogueData → Name → Expr → Option CatalogueData
virtual_after c n a = where_some (value_after c.schema a) (λ v. relvar_after c n v.1 (origin.Virtual v.0) [])

-- with a constraint whose name is new
unfoldable pub named_after : CatalogueData → Name → Typed → Option CatalogueData
named_after c n u = where_true (not (list_any (is_constraint n) c.tests)) (with_constraint c n u)

unfoldable pub constraint_after : CatalogueData → Name → Expr → Option CatalogueData
constraint_after c n a = where_some (condition_after c.schema a) (named_after c n)

abbrev pub after : CatalogueData → Definition → Option CatalogueData
after c (definition.Type n m xs a) = type_after c n (unwrap_or m n) xs a
after c (definition.Base n o as') = base_after c n o as'
after c (definition.Virtual n a) = virtual_after c n a
after c (definition.Constraint n a) = constraint_after c n a
