-- Types as they are written. A type's name is that of a type which is defined; a heading's names are distinct.
use Rattle.std.specs.Prelude.{List, [], ◌∷◌, map, Option, Some}
use Rattle.std.specs.FinMap as by_name
use Rattle.std.specs.Option.{is_some}
use Rattle.td_values.specs.Data.{Ty}
use Rattle.td_values.specs.Headings.{Header}
use Rattle.td_values.specs.Order.{text_cmp}
use Rattle.td_values.specs.View.{ty_of}
use Rattle.td_values.specs.declared.TypeKind.{TypeKind}
use Rattle.td_values.specs.declared.TypeKind.TheVariants as kind
use Rattle.td_syntax.specs.declared.tree.Named.{Named}
use Rattle.td_syntax.specs.declared.tree.TypeExpr.{TypeExpr}
use Rattle.td_syntax.specs.declared.tree.TypeExpr.TheOpen.{TypeExpr-F}
use Rattle.td_syntax.specs.declared.tree.TypeExpr.TheFolds.{fold-TypeExpr}
use Rattle.td_schema.specs.Kinds.{Name}
use Rattle.td_schema.specs.Lists.{are_distinct}
use Rattle.td_schema.specs.Results.{where_true, where_some}
use Rattle.td_schema.specs.Schemas.{SchemaData, type_named}

-- a list of named parts, where each has one
abbrev pub all_named : {A B : Type 0} → (A → Option B) → List (Named A) → Option (List (Named B))
all_named f [] = Some []
all_named f (x ∷ xs) = where_some (f x.value) (λ y. where_some (all_named f xs) (λ ys. Some (record { name = x.name; value = y } ∷ ys)))

abbrev pub names : {A : Type 0} → List (Named A) → List Name
names xs = map (λ x. x.name) xs

abbrev pub kind_column : Named TypeKind → Name × Ty
kind_column x = (x.name, ty_of x.value)

-- the heading of names with kinds of types
abbrev pub kind_columns : List (Named TypeKind) → Header
kind_columns xs = by_name.from_entries {R = text_cmp} (map kind_column xs)

-- the heading of these fields, whose names are distinct
abbrev pub distinct_columns : List (Named TypeKind) → Option Header
distinct_columns xs = where_true (are_distinct (names xs)) (kind_columns xs)

-- what a type expression becomes, if its parts have become kinds of types
abbrev pub written_heading : List (Named (Option TypeKind)) → Option Header
written_heading xs = where_some (all_named (λ k. k) xs) distinct_columns

abbrev pub written_step : SchemaData → TypeExpr-F (Option TypeKind) → Option TypeKind
written_step cat TypeExpr-F.Boolean = Some kind.Boolean
written_step cat TypeExpr-F.Integer = Some kind.Integer
written_step cat TypeExpr-F.Char = Some kind.Char
written_step cat (TypeExpr-F.User n) = where_true (is_some (type_named cat n)) (kind.User n)
written_step cat (TypeExpr-F.Tuple xs) = where_some (written_heading xs) (λ h. Some (kind.Tuple h))
written_step cat (TypeExpr-F.Relation xs) = where_some (written_heading xs) (λ h. Some (kind.Relation h))

-- the kind of a type as it is written, part by part
abbrev pub written : SchemaData → TypeExpr → Option TypeKind
written cat = fold-TypeExpr (Option TypeKind) (written_step cat)

-- the components of a possrep, and the heading of a relvar, as they are written
unfoldable pub components_written : SchemaData → List (Named TypeExpr) → Option (List (Named TypeKind))
components_written cat xs = where_some (all_named (written cat) xs) (λ ks. where_true (are_distinct (names ks)) ks)

unfoldable pub heading_written : SchemaData → List (Named TypeExpr) → Option Header
heading_written cat xs = where_some (all_named (written cat) xs) distinct_columns
