-- The typing as a function: the tree and the kind of an expression, if it has one.
use Rattle.std.specs.Prelude.{◌&&◌, Bool, true, false, List, [], ◌∷◌, ◌++◌, map, drop, Option, Some, None}
use Rattle.std.specs.FinMap as by_name
use Rattle.std.specs.List.{list_all}
use Rattle.td_values.specs.Headings.{Header}
use Rattle.td_values.specs.declared.TypeKind.{TypeKind}
use Rattle.td_values.specs.declared.TypeKind.TheVariants as kind
use Rattle.td_tuples.specs.Parts.{columns_in}
use Rattle.td_tuples.specs.Items.{columns_of, extended_columns}
use Rattle.td_tuples.specs.declared.items.Item.{Item}
use Rattle.td_tuples.specs.declared.items.Summary as typed_summary
use Rattle.td_tuples.specs.declared.items.Summary.TheVariants as typed_summaries
use Rattle.td_syntax.specs.declared.tree.UnaryOperator.{UnaryOperator}
use Rattle.td_syntax.specs.declared.tree.BinaryOperator.{BinaryOperator}
use Rattle.td_syntax.specs.declared.tree.Nesting.{Nesting}
use Rattle.td_syntax.specs.declared.tree.Extension.{Extension}
use Rattle.td_syntax.specs.declared.tree.Extension.TheVariants as extension
use Rattle.td_syntax.specs.declared.tree.Aggregate.{Aggregate}
use Rattle.td_syntax.specs.declared.tree.Attributes.{Attributes}
use Rattle.td_syntax.specs.declared.tree.Renaming.{Renaming}
use Rattle.td_syntax.specs.declared.tree.Named.{Named}
use Rattle.td_syntax.specs.declared.tree.SummaryTerm.{SummaryTerm}
use Rattle.td_syntax.specs.declared.tree.SummaryTerm.TheVariants as summary
use Rattle.td_syntax.specs.declared.tree.Groups.{Groups}
use Rattle.td_syntax.specs.declared.tree.Groups.TheVariants as groups
use Rattle.td_syntax.specs.declared.tree.TypeExpr.{TypeExpr}
use Rattle.td_syntax.specs.declared.tree.Expr.{Expr}
use Rattle.td_syntax.specs.declared.tree.Expr.TheOpen.{Expr-F}
use Rattle.td_syntax.specs.declared.tree.Expr.TheFolds.{fold-Expr}
use Rattle.td_schema.specs.Results.{where_true, where_some}
use Rattle.td_schema.specs.Kinds.{Name, kind_of, same_kind, is_boolean, relation_heading, tuple_heading, user_name, is_part}
use Rattle.td_schema.specs.Schemas.{SchemaData, begins_with_the, possrep_named, type_named, component_named}
use Rattle.td_schema.specs.declared.scope.Meant.{Meant}
use Rattle.td_schema.specs.declared.scope.Meant.TheVariants.{Local as local, Relvar as relvar}
use Rattle.td_schema.specs.Scopes.{Scope, within_tuple, with_names}
use Rattle.td_schema.specs.Written.{names, heading_written}
use Rattle.td_schema.specs.Lists.{are_distinct, attributes_of, renaming_pair}
use Rattle.td_schema.specs.Operators.{unary_kind, binary_kind, suits}
use Rattle.td_schema.specs.Forms.{kind_heading, part_kind, renamed_kind, nested_heading, unnested_heading, from_kind, may_extend}
use Rattle.td_typed_trees.specs.declared.tree.TypedGroups.{TypedGroups}
use Rattle.td_typed_trees.specs.declared.tree.TypedGroups.TheVariants as typed_groups
use Rattle.td_typed_trees.specs.declared.tree.Typed.{Typed}
use Rattle.td_typed_trees.specs.declared.tree.Typed.TheVariants as t
use Rattle.td_typed_trees.specs.declared.tree.Typing.{Typing}
use Rattle.td_typing.specs.declared.parts.Grouping.{Grouping}
use Rattle.td_typing.specs.declared.parts.Introduced.{Introduced}
use Rattle.td_typing.specs.declared.parts.Operands.{Operands}
use Rattle.td_typing.specs.Trees.{typing, named, item_of, summary_of}

abbrev pub Inferred : Type 0
Inferred = Scope → Option Typing

-- each, in order, behind those that are done
abbrev pub each : {A B : Type 0} → (A → Option B) → List B → List A → Option (List B)
each f done [] = Some done
each f done (x ∷ xs) = where_some (f x) (λ y. each f (done ++ y ∷ []) xs)

-- ---- names

abbrev pub meant_by : Name → Option Meant → Option Typing
meant_by x None = None
meant_by x (Some (local k)) = Some (typing (t.Local x) k)
meant_by x (Some (relvar n h)) = Some (typing (t.Relvar n) (kind.Relation h))

unfoldable pub infer_name : Name → Inferred
infer_name x s = meant_by x (s x)

-- a relation without attributes, of these tuples
abbrev pub of_no_attributes : List Typed → Typing
of_no_attributes us = typing (t.Relation by_name.empty us) (kind.Relation by_name.empty)

-- ---- forms with one operand, by what they make of it

unfoldable pub infer_by : (Typing → Option Typing) → Inferred → Inferred
infer_by f a s = where_some (a s) f

unfoldable pub by_unary : UnaryOperator → Typing → Option Typing
by_unary o a = where_some (unary_kind o a.kind) (λ k. Some (typing (t.Unary o a.tree) k))

unfoldable pub by_from : Name → Typing → Option Typing
by_from x a = where_some (from_kind x a.kind) (λ k. Some (typing (t.From x a.tree) k))

unfoldable pub by_project : Attributes → Typing → Option Typing
by_project xs a = where_some (kind_heading a.kind) (λ h. where_some (attributes_of xs h) (λ ns. Some (typing (t.Project a.tree ns) (part_kind ns a.kind))))

unfoldable pub by_rename : List Renaming → Typing → Option Typing
by_rename xs a = where_some (renamed_kind (map renaming_pair xs) a.kind) (λ k. Some (typing (t.Rename a.tree (map renaming_pair xs)) k))

unfoldable pub nested : Nesting → List Name → Name → Header → Typed → Option Typing
nested o ns c h u = where_some (nested_heading o ns c h) (λ g. Some (typing (t.Nest o u ns c) (kind.Relation g)))

unfoldable pub by_nest : Nesting → Attributes → Name → Typing → Option Typing
by_nest o xs c a = where_some (relation_heading a.kind) (λ h. where_some (attributes_of xs h) (λ ns. nested o ns c h a.tree))

unfoldable pub by_unnest : Nesting → Name → Typing → Option Typing
by_unnest o c a = where_some (relation_heading a.kind) (λ h. where_some (unnested_heading o c h) (λ g. Some (typing (t.Unnest o a.tree c) (kind.Relation g))))

unfoldable pub aggregated : Aggregate → Typed → Typing → Option Typing
aggregated o u a = where_true (suits o a.kind) (typing (t.Aggregate u (summary_of o a.tree)) a.kind)

abbrev pub lone : {A : Type 0} → List A → Option A
lone (a ∷ []) = Some a
lone _ = None

unfoldable pub lone_term : Header → Option Typing
lone_term h = where_some (lone (by_name.entries h)) (λ f. Some (typing (t.Local f.0) (kind_of f.1)))

unfoldable pub by_lone : Aggregate → Typing → Option Typing
by_lone o a = where_some (relation_heading a.kind) (λ h. where_some (lone_term h) (aggregated o a.tree))

-- ---- forms with several

unfoldable pub by_binary : BinaryOperator → Typing → Typing → Option Typing
by_binary o a b = where_some (binary_kind o a.kind b.kind) (λ k. Some (typing (t.Binary o a.tree b.tree) k))

unfoldable pub infer_binary : BinaryOperator → Inferred → Inferred → Inferred
infer_binary o a b s = where_some (a s) (λ x. where_some (b s) (by_binary o x))

unfoldable pub truth_tree : Typing → Option Typed
truth_tree a = where_true (is_boolean a.kind) a.tree

unfoldable pub chosen : Typed → Typing → Typing → Option Typing
chosen u b c = where_true (same_kind b.kind c.kind) (typing (t.If u b.tree c.tree) b.kind)

unfoldable pub infer_if : Inferred → Inferred → Inferred → Inferred
infer_if a b c s = where_some (a s) (λ x. where_some (truth_tree x) (λ u. where_some (b s) (λ y. where_some (c s) (chosen u y))))

unfoldable pub restricted : Typing → Typing → Option Typing
restricted r c = where_true (is_boolean c.kind) (typing (t.Where r.tree c.tree) r.kind)

unfoldable pub infer_where : Inferred → Inferred → Inferred
infer_where r c s = where_some (r s) (λ x. where_some (relation_heading x.kind) (λ h. where_some (c (within_tuple h s)) (restricted x)))

unfoldable pub infer_aggregate : Aggregate → Inferred → Inferred → Inferred
infer_aggregate o r a s = where_some (r s) (λ x. where_some (relation_heading x.kind) (λ h. where_some (a (within_tuple h s)) (aggregated o x.tree)))

-- ---- lists of expressions: selectors, THE_, RELATION

abbrev pub operands : List Typed → List TypeKind → Operands
operands us ks = record { trees = us; kinds = ks }

-- each, in order, behind those that are done
abbrev pub infer_each : List Typed → List TypeKind → List Inferred → Scope → Option Operands
infer_each us ks [] s = Some (operands us ks)
infer_each us ks (f ∷ fs) s = where_some (f s) (λ y. infer_each (us ++ y.tree ∷ []) (ks ++ y.kind ∷ []) fs s)

unfoldable pub infer_operands : List Inferred → Scope → Option Operands
infer_operands fs s = infer_each [] [] fs s

-- the kinds are those of the components, one for each
abbrev pub fit : List TypeKind → List (Named TypeKind) → Bool
fit [] [] = true
fit (k ∷ ks) (c ∷ cs) = same_kind k c.value && fit ks cs
fit _ _ = false

unfoldable pub selected : SchemaData → Name → Operands → Option Typing
selected cat x o = where_some (possrep_named cat x) (λ r. where_true (fit o.kinds r.1.components) (typing (t.Select r.0 o.trees) (kind.User r.1.possrep.ty)))

unfoldable pub infer_selector : SchemaData → Name → List Inferred → Inferred
infer_selector cat x fs s = where_some (infer_operands fs s) (selected cat x)

unfoldable pub component_of_type : List (Named TypeKind) → Name → Typed → Option Typing
component_of_type cs c u = where_some (component_named cs c) (λ f. Some (typing (t.Component f.0 u) f.1.value))

unfoldable pub component_of : SchemaData → Name → Typing → Option Typing
component_of cat c a = where_some (user_name a.kind) (λ m. where_some (type_named cat m) (λ r. component_of_type r.1.components c a.tree))

unfoldable pub infer_component : SchemaData → Name → List Inferred → Inferred
infer_component cat c fs s = where_some (lone fs) (λ f. infer_by (component_of cat c) f s)

abbrev pub infer_called : SchemaData → Name → Bool → List Inferred → Inferred
infer_called cat x false fs s = infer_selector cat x fs s
infer_called cat x true fs s = infer_component cat (drop 4 x) fs s

unfoldable pub infer_call : SchemaData → Name → List Inferred → Inferred
infer_call cat x fs s = infer_called cat x (begins_with_the x) fs s

unfoldable pub relation_of : Operands → Header → Option Typing
relation_of o h = where_true (list_all (same_kind (kind.Tuple h)) o.kinds) (typing (t.Relation h o.trees) (kind.Relation h))

-- the heading that is written, or that of the first
abbrev pub first_heading : List TypeKind → Option Header
first_heading [] = None
first_heading (k ∷ ks) = tuple_heading k

abbrev pub heading_meant : SchemaData → Option (List (Named TypeExpr)) → List TypeKind → Option Header
heading_meant cat (Some fs) ks = heading_written cat fs
heading_meant cat None ks = first_heading ks

unfoldable pub gathered : SchemaData → Option (List (Named TypeExpr)) → Operands → Option Typing
gathered cat w o = where_some (heading_meant cat w o.kinds) (relation_of o)

unfoldable pub infer_relation : SchemaData → Option (List (Named TypeExpr)) → List Inferred → Inferred
infer_relation cat w fs s = where_some (infer_operands fs s) (gathered cat w)

-- ---- lists of named expressions: TUPLE, EXTEND

unfoldable pub infer_item : Scope → Named Inferred → Option (Item Typed)
infer_item s x = where_some (x.value s) (λ a. Some (item_of x.name a.kind a.tree))

unfoldable pub infer_items : List (Named Inferred) → Scope → Option (List (Item Typed))
infer_items xs s = each (infer_item s) [] xs

unfoldable pub tuple_of : List Name → List (Item Typed) → Option Typing
tuple_of ns is = where_true (are_distinct ns) (typing (t.Tuple is) (kind.Tuple (columns_of is)))

unfoldable pub infer_tuple : List Name → List (Named Inferred) → Inferred
infer_tuple ns xs s = where_some (infer_items xs s) (tuple_of ns)

unfoldable pub extended : Extension → List Name → Typed → Header → List (Item Typed) → Option Typing
extended o ns u h is = where_true (may_extend o ns h) (typing (t.Extend u is) (kind.Relation (extended_columns is h)))

unfoldable pub infer_extend : Extension → Inferred → List Name → List (Named Inferred) → Inferred
infer_extend o r ns xs s = where_some (r s) (λ x. where_some (relation_heading x.kind) (λ h. where_some (infer_items xs (within_tuple h s)) (extended o ns x.tree h)))

-- ---- SUMMARIZE

abbrev pub grouping : TypedGroups Typed → Header → Grouping
grouping g k = record { groups = g; heading = k }

abbrev pub ungrouped : Grouping
ungrouped = grouping typed_groups.Whole by_name.empty

unfoldable pub grouped_per : Header → Typing → Option Grouping
grouped_per h a = where_some (relation_heading a.kind) (λ k. where_true (is_part k h) (grouping (typed_groups.Per a.tree) k))

unfoldable pub grouped_by : Header → Attributes → Option Grouping
grouped_by h xs = where_some (attributes_of xs h) (λ ns. Some (grouping (typed_groups.By ns) (columns_in ns h)))

abbrev pub infer_groups : Header → Groups Inferred → Scope → Option Grouping
infer_groups h groups.Whole s = Some ungrouped
infer_groups h (groups.Per a) s = where_some (a s) (grouped_per h)
infer_groups h (groups.By xs) s = grouped_by h xs

unfoldable pub summed : Name → Aggregate → Typing → Option (Item (typed_summary.Summary Typed))
summed n o a = where_true (suits o a.kind) (item_of n a.kind (summary_of o a.tree))

abbrev pub infer_summary_at : Scope → Name → SummaryTerm Inferred → Option (Item (typed_summary.Summary Typed))
infer_summary_at s n summary.Count = Some (item_of n kind.Integer typed_summaries.Count)
infer_summary_at s n (summary.Of o f) = where_some (f s) (summed n o)

unfoldable pub infer_summary : Scope → Named (SummaryTerm Inferred) → Option (Item (typed_summary.Summary Typed))
infer_summary s x = infer_summary_at s x.name x.value

unfoldable pub infer_summaries : List (Named (SummaryTerm Inferred)) → Scope → Option (List (Item (typed_summary.Summary Typed)))
infer_summaries xs s = each (infer_summary s) [] xs

unfoldable pub summarized : List Name → Typed → Grouping → List (Item (typed_summary.Summary Typed)) → Option Typing
summarized ns u g is = where_true (may_extend extension.Add ns g.heading) (typing (t.Summarize u g.groups is) (kind.Relation (extended_columns is g.heading)))

unfoldable pub infer_summarize : Inferred → Groups Inferred → List Name → List (Named (SummaryTerm Inferred)) → Inferred
infer_summarize r g ns xs s = where_some (r s) (λ x. where_some (relation_heading x.kind) (λ h. where_some (infer_groups h g s) (λ p. where_some (infer_summaries xs (within_tuple h s)) (summarized ns x.tree p))))

-- ---- WITH

abbrev pub introduced : List (Named Typed) → List (Named TypeKind) → Introduced
introduced us ks = record { trees = us; kinds = ks }

-- what is introduced, behind what is
abbrev pub infer_in_turn : List (Named Typed) → List (Named TypeKind) → List (Named Inferred) → Scope → Option Introduced
infer_in_turn us ks [] s = Some (introduced us ks)
infer_in_turn us ks (x ∷ xs) s = where_some (x.value (with_names ks s)) (λ a. infer_in_turn (us ++ named x.name a.tree ∷ []) (ks ++ named x.name a.kind ∷ []) xs s)

unfoldable pub introduces : List (Named Inferred) → Scope → Option Introduced
introduces xs s = infer_in_turn [] [] xs s

unfoldable pub with_tree : List (Named Typed) → Typing → Option Typing
with_tree us a = Some (typing (t.With us a.tree) a.kind)

unfoldable pub infer_with : List (Named Inferred) → Inferred → Inferred
infer_with xs b s = where_some (introduces xs s) (λ p. where_some (b (with_names p.kinds s)) (with_tree p.trees))

-- ---- the function

abbrev pub infer_step : SchemaData → Expr-F Inferred → Inferred
infer_step cat (Expr-F.Integer n) s = Some (typing (t.Integer n) kind.Integer)
infer_step cat (Expr-F.Text x) s = Some (typing (t.Text x) kind.Char)
infer_step cat (Expr-F.Truth b) s = Some (typing (t.Truth b) kind.Boolean)
infer_step cat Expr-F.TableDee s = Some (of_no_attributes (t.Tuple [] ∷ []))
infer_step cat Expr-F.TableDum s = Some (of_no_attributes [])
infer_step cat (Expr-F.Name x) s = infer_name x s
infer_step cat (Expr-F.Call x xs) s = infer_call cat x xs s
infer_step cat (Expr-F.Tuple xs) s = infer_tuple (names xs) xs s
infer_step cat (Expr-F.Relation o xs) s = infer_relation cat o xs s
infer_step cat (Expr-F.Unary o a) s = infer_by (by_unary o) a s
infer_step cat (Expr-F.Binary o a b) s = infer_binary o a b s
infer_step cat (Expr-F.From x a) s = infer_by (by_from x) a s
infer_step cat (Expr-F.Project a xs) s = infer_by (by_project xs) a s
infer_step cat (Expr-F.Where a c) s = infer_where a c s
infer_step cat (Expr-F.Rename a xs) s = infer_by (by_rename xs) a s
infer_step cat (Expr-F.Nest o a xs c) s = infer_by (by_nest o xs c) a s
infer_step cat (Expr-F.Unnest o a c) s = infer_by (by_unnest o c) a s
infer_step cat (Expr-F.Aggregate o a None) s = infer_by (by_lone o) a s
infer_step cat (Expr-F.Aggregate o a (Some b)) s = infer_aggregate o a b s
infer_step cat (Expr-F.If a b c) s = infer_if a b c s
infer_step cat (Expr-F.Extend o a xs) s = infer_extend o a (names xs) xs s
infer_step cat (Expr-F.Summarize a g xs) s = infer_summarize a g (names xs) xs s
infer_step cat (Expr-F.With xs b) s = infer_with xs b s

-- the tree and the kind of an expression in a scope
abbrev pub infer : SchemaData → Expr → Inferred
infer cat = fold-Expr Inferred (infer_step cat)

-- ---- the same of the parts of an expression

abbrev pub all_inferred : SchemaData → List Expr → List Inferred
all_inferred cat xs = map (infer cat) xs

abbrev pub name_inferred : SchemaData → Named Expr → Named Inferred
name_inferred cat x = named x.name (infer cat x.value)

abbrev pub named_inferred : SchemaData → List (Named Expr) → List (Named Inferred)
named_inferred cat xs = map (name_inferred cat) xs

abbrev pub groups_inferred : SchemaData → Groups Expr → Groups Inferred
groups_inferred cat groups.Whole = groups.Whole
groups_inferred cat (groups.Per a) = groups.Per (infer cat a)
groups_inferred cat (groups.By xs) = groups.By xs

abbrev pub summary_inferred : SchemaData → SummaryTerm Expr → SummaryTerm Inferred
summary_inferred cat summary.Count = summary.Count
summary_inferred cat (summary.Of o a) = summary.Of o (infer cat a)

abbrev pub summaries_inferred : SchemaData → List (Named (SummaryTerm Expr)) → List (Named (SummaryTerm Inferred))
summaries_inferred cat xs = map (λ (x : Named (SummaryTerm Expr)). named x.name (summary_inferred cat x.value)) xs
