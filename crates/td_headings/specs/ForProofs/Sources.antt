-- What is inferred for the source of an action, part by part.
use Rattle.std.specs.Prelude.{ℕ, false, List, Option, Some, None, slice_get}
use Rattle.td_values.specs.Headings.{Header}
use Rattle.td_values.specs.declared.TypeKind.TheVariants as kind
use Rattle.td_syntax.specs.declared.tree.Expr.{Expr}
use Rattle.td_syntax.specs.declared.tree.BinaryOperator.TheVariants as binary
use Rattle.td_syntax.specs.declared.tree.UnaryOperator.TheVariants as unary
use Rattle.td_syntax.specs.declared.tree.Extension.TheVariants as extension
use Rattle.td_syntax.specs.declared.tree.Named.{Named}
use Rattle.td_syntax.specs.declared.script.Action.{Action}
use Rattle.td_syntax.specs.declared.script.Action.TheVariants as action
use Rattle.td_schema.specs.Kinds.{Name, relation_heading, same_kind}
use Rattle.td_schema.specs.Results.{where_some, where_true}
use Rattle.td_schema.specs.Schemas.{SchemaData, relvar_named}
use Rattle.td_schema.specs.Scopes.{Scope, relvars_of, within_tuple}
use Rattle.td_schema.specs.Written.{names}
use Rattle.td_typed_trees.specs.declared.tree.Typed.TheVariants as t
use Rattle.td_typed_trees.specs.declared.tree.Typing.{Typing}
use Rattle.td_typing.specs.Trees.{typing}
use Rattle.td_typing.specs.ForProofs.Infer.{infer, infer_name, by_unary, by_binary, restricted, infer_items, named_inferred, extended}
use Rattle.td_headings.specs.Reached.{is_base}
use Rattle.td_headings.specs.Statements.{source_of}
use Rattle.td_headings.specs.declared.defined.Origin.{Origin}

unfoldable pub others : SchemaData → Name → Expr → Option Typing
others s x c = where_some (infer_name x (relvars_of s)) (λ r. where_some (relation_heading r.kind) (λ h. where_some (infer s c (within_tuple h (relvars_of s))) (λ a. where_some (by_unary unary.Not a) (restricted r))))

unfoldable pub selected : SchemaData → Name → Expr → Option Typing
selected s x c = where_some (infer_name x (relvars_of s)) (λ r. where_some (relation_heading r.kind) (λ h. where_some (infer s c (within_tuple h (relvars_of s))) (restricted r)))

unfoldable pub no_tuples : SchemaData → Name → Option Typing
no_tuples s x = where_some (infer_name x (relvars_of s)) (λ r. where_some (relation_heading r.kind) (λ h. restricted r (typing (t.Truth false) kind.Boolean)))

unfoldable pub changed : SchemaData → Scope → List (Named Expr) → Typing → Option Typing
changed s w xs r = where_some (relation_heading r.kind) (λ h. where_some (infer_items (named_inferred s xs) (within_tuple h w)) (extended extension.Assign (names xs) r.tree h))

unfoldable pub inserted : SchemaData → Name → Expr → Option Typing
inserted s x a = where_some (infer_name x (relvars_of s)) (λ r. where_some (infer s a (relvars_of s)) (by_binary binary.Union r))

unfoldable pub all_updated : SchemaData → Name → List (Named Expr) → Option Typing
all_updated s x xs = where_some (infer_name x (relvars_of s)) (changed s (relvars_of s) xs)

unfoldable pub updated : SchemaData → Name → Expr → List (Named Expr) → Option Typing
updated s x c xs = where_some (others s x c) (λ r. where_some (selected s x c) (λ p. where_some (changed s (relvars_of s) xs p) (by_binary binary.Union r)))

abbrev pub found : SchemaData → Action → Option Typing
found s (action.Assign x a) = infer s a (relvars_of s)
found s (action.Insert x a) = inserted s x a
found s (action.Delete x None) = no_tuples s x
found s (action.Delete x (Some c)) = others s x c
found s (action.Update x None xs) = all_updated s x xs
found s (action.Update x (Some c) xs) = updated s x c xs

-- the base relvar of this name, with its heading
unfoldable pub real : SchemaData → List Origin → Name → Option (ℕ × Header)
real s os x = where_some (relvar_named s x) (λ r. where_true (is_base (slice_get os r.0)) (r.0, r.1.value))

-- an action's target, of this name, and its source, which has the target's heading
unfoldable pub assigned : SchemaData → List Origin → Name → Action → Option (ℕ × Typing)
assigned s os x a = where_some (real s os x) (λ r. where_some (infer s (source_of a) (relvars_of s)) (λ t. where_true (same_kind (kind.Relation r.1) t.kind) (r.0, t)))
