-- The types that forms with names give: a part, RENAME, GROUP and WRAP and their inverses, an attribute of a tuple, new
-- attributes.
use Rattle.std.specs.Prelude.{Bool, ◌&&◌, List, [], ◌∷◌, Option, Some, None}
use Rattle.std.specs.FinMap as by_name
use Rattle.td_values.specs.Headings.{Header}
use Rattle.td_values.specs.declared.TypeKind.{TypeKind}
use Rattle.td_values.specs.declared.TypeKind.TheVariants as kind
use Rattle.td_tuples.specs.Parts.{columns_in, columns_out}
use Rattle.td_tuples.specs.Nestings.{grouped_columns, wrapped_columns, opened_columns}
use Rattle.td_tuples.specs.Renamings.{renamed_columns}
use Rattle.td_syntax.specs.declared.tree.Nesting.{Nesting}
use Rattle.td_syntax.specs.declared.tree.Nesting.TheVariants as nesting
use Rattle.td_syntax.specs.declared.tree.Extension.{Extension}
use Rattle.td_syntax.specs.declared.tree.Extension.TheVariants as extension
use Rattle.td_schema.specs.Kinds.{Name, kind_of, relation_heading, tuple_heading, is_new, are_new}
use Rattle.td_schema.specs.Lists.{are_distinct, may_rename}
use Rattle.td_schema.specs.Results.{where_true, where_some}

-- the heading of a relation or of a tuple
abbrev pub kind_heading : TypeKind → Option Header
kind_heading (kind.Tuple h) = Some h
kind_heading (kind.Relation h) = Some h
kind_heading _ = None

-- the part of a relation or of a tuple at these names
abbrev pub part_kind : List Name → TypeKind → TypeKind
part_kind ns (kind.Tuple h) = kind.Tuple (columns_in ns h)
part_kind ns (kind.Relation h) = kind.Relation (columns_in ns h)
part_kind ns k = k

unfoldable pub renamed_kind : List (Name × Name) → TypeKind → Option TypeKind
renamed_kind items k = where_some (relation_heading k) (λ h. where_true (may_rename items h) (kind.Relation (renamed_columns items h)))

abbrev pub nested_columns : Nesting → List Name → Name → Header → Header
nested_columns nesting.Group ns c h = grouped_columns ns c h
nested_columns nesting.Wrap ns c h = wrapped_columns ns c h

-- the new name is not among the attributes that stay
unfoldable pub nested_heading : Nesting → List Name → Name → Header → Option Header
nested_heading o ns c h = where_true (is_new (columns_out ns h) c) (nested_columns o ns c h)

-- the attributes inside a relation-valued attribute, for UNGROUP, and a tuple-valued one, for UNWRAP
abbrev pub inside : Nesting → TypeKind → Option Header
inside nesting.Group k = relation_heading k
inside nesting.Wrap k = tuple_heading k

unfoldable pub attribute_kind : Name → Header → Option TypeKind
attribute_kind c h = where_some (by_name.get h c) (λ ty. Some (kind_of ty))

-- they are not among those that stay
unfoldable pub unnested_heading : Nesting → Name → Header → Option Header
unnested_heading o c h = where_some (attribute_kind c h) (λ k. where_some (inside o k) (λ g. where_true (are_new (by_name.keys g) (columns_out (c ∷ []) h)) (opened_columns c h)))

-- an attribute of a tuple
unfoldable pub from_kind : Name → TypeKind → Option TypeKind
from_kind c k = where_some (tuple_heading k) (attribute_kind c)

-- new attributes have distinct names; those that are added are not there
abbrev pub may_extend : Extension → List Name → Header → Bool
may_extend extension.Add ns h = are_distinct ns && are_new ns h
may_extend extension.Assign ns h = are_distinct ns
