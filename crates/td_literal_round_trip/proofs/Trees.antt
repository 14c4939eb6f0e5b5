-- The trees of literals.
use Rattle.std.proofs.Common.{ℤ, pos, negsuc, suc, if◌then◌else◌, List, [], ◌∷◌, Some}
use Rattle.std.specs.Ordering.{int_eq}
use Rattle.td_values.specs.Data.{Ty, boolean_type, integer_type, char_type, user_type, tuple_type, relation_type, Fields, no_fields, field, Datum, boolean, integer, char, user, tuple, relation, Items, no_items, item, Attrs, no_attrs, attr, Tuples, no_tuples, next_tuple}
use Rattle.td_syntax.specs.declared.tree.Named.{Named}
use Rattle.td_syntax.specs.declared.tree.TypeExpr.{TypeExpr}
use Rattle.td_syntax.specs.declared.tree.TypeExpr.TheVariants as t
use Rattle.td_syntax.specs.declared.tree.UnaryOperator.TheVariants as unary
use Rattle.td_syntax.specs.declared.tree.BinaryOperator.TheVariants as binary
use Rattle.td_syntax.specs.declared.tree.Expr.{Expr}
use Rattle.td_syntax.specs.declared.tree.Expr.TheVariants as e

abbrev mutual
  pub type_tree : Ty → TypeExpr
  type_tree boolean_type = t.Boolean
  type_tree integer_type = t.Integer
  type_tree char_type = t.Char
  type_tree (user_type n) = t.User n
  type_tree (tuple_type fs) = t.Tuple (field_trees fs)
  type_tree (relation_type fs) = t.Relation (field_trees fs)

  pub field_trees : Fields → List (Named TypeExpr)
  field_trees no_fields = []
  field_trees (field n ty fs) = record { name = n; value = type_tree ty } ∷ field_trees fs

-- -9223372036854775807 - 1
abbrev pub least_tree : Expr
least_tree = e.Binary binary.Subtract (e.Unary unary.Negate (e.Integer (pos 9223372036854775807))) (e.Integer (pos 1))

-- a number, or one with a sign
abbrev pub signed_tree : ℤ → Expr
signed_tree (pos n) = e.Integer (pos n)
signed_tree (negsuc n) = e.Unary unary.Negate (e.Integer (pos (suc n)))

abbrev pub integer_tree : ℤ → Expr
integer_tree n = if int_eq n (negsuc 9223372036854775807) then least_tree else signed_tree n

abbrev mutual
  pub tree : Datum → Expr
  tree (boolean b) = e.Truth b
  tree (integer n) = integer_tree n
  tree (char x) = e.Text x
  tree (user p is) = e.Call p.name (item_trees is)
  tree (tuple w) = e.Tuple (attr_trees w)
  tree (relation fs ts) = e.Relation (Some (field_trees fs)) (tuple_trees ts)

  pub item_trees : Items → List Expr
  item_trees no_items = []
  item_trees (item d is) = tree d ∷ item_trees is

  pub attr_trees : Attrs → List (Named Expr)
  attr_trees no_attrs = []
  attr_trees (attr n d w) = record { name = n; value = tree d } ∷ attr_trees w

  pub tuple_trees : Tuples → List Expr
  tuple_trees no_tuples = []
  tuple_trees (next_tuple w ts) = e.Tuple (attr_trees w) ∷ tuple_trees ts
