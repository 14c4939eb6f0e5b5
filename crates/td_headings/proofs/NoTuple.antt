-- Where no tuple is in scope.
use Rattle.std.proofs.Common.{◌≡◌, sym, subst}
use Rattle.std.specs.FinMap as by_name
use Rattle.td_values.specs.Order.{text_cmp}
use Rattle.td_values.specs.declared.TypeKind.{TypeKind}
use Rattle.td_syntax.specs.declared.tree.Expr.{Expr}
use Rattle.td_schema.specs.Scopes.{Scope, within_tuple, or_outer, relvars_of}
use Rattle.td_typing.specs.Types.{Types}
use Rattle.td_typed_trees.specs.declared.expression.Expression.{Expression}
use Rattle.td_typed_trees.specs.declared.tree.Typed.{Typed}
use Rattle.td_values.specs.Headings.{Header}
use Rattle.td_headings.specs.Catalogues.{CatalogueData}
use Rattle.td_headings.specs.Definitions.{Defined}
use Rattle.td_headings.specs.Expressions.{HasAllUnder, IsTree, IsTyped, no_tuple}

without : (s : Scope) → within_tuple no_tuple s ≡ s
without s = λ i x. or_outer (by_name.get-empty text_cmp x i) (s x)

module _ (c : CatalogueData) (a : Expr) (u : Typed) (k : TypeKind) where
  pub in_no_tuple : Types c.schema (relvars_of c.schema) a u k → Types c.schema (within_tuple no_tuple (relvars_of c.schema)) a u k
  in_no_tuple d = subst (λ s. Types c.schema s a u k) (sym (without (relvars_of c.schema))) d

  pub at_relvars : Types c.schema (within_tuple no_tuple (relvars_of c.schema)) a u k → Types c.schema (relvars_of c.schema) a u k
  at_relvars d = subst (λ s. Types c.schema s a u k) (without (relvars_of c.schema)) d

-- a tree with all that is under it is an expression
pub is_typed : (c : CatalogueData) (h : Header) (u : Typed) (k : TypeKind) (x : Expression) → Defined c → IsTree c h u k → HasAllUnder c x → x.tree ≡ u → x.kind ≡ k → x.attributes ≡ h → IsTyped x
is_typed c h u k x defined t under tree kind attributes = record {
  catalogue = c;
  defined = defined;
  tree = subst (λ g. IsTree c g x.tree x.kind) (sym attributes) (subst (λ v. IsTree c h v x.kind) (sym tree) (subst (λ j. IsTree c h u j) (sym kind) t));
  under = under;
}
