-- A condition that is found is one of the catalogue, and one of the catalogue is found.
use Rattle.std.proofs.Common.{◌≡◌, List, [], ◌∷◌, ◌++◌, Some, None, Result, Err, sym, subst, ◌∙◌}
use Rattle.td_values.specs.declared.TypeKind.TheVariants as kind
use Rattle.td_syntax.specs.declared.tree.Expr.{Expr}
use Rattle.td_syntax.specs.declared.script.Action.{Action}
use Rattle.td_syntax.specs.declared.script.Statement.{Statement}
use Rattle.td_syntax.specs.declared.script.Statement.TheVariants as statement
use Rattle.td_schema.specs.declared.error.TypeError.{TypeError}
use Rattle.td_schema.specs.declared.error.TypeError.TheVariants.{IllTyped, OutOfMemory}
use Rattle.td_schema.specs.Results.{Fails}
use Rattle.td_schema.specs.Scopes.{relvars_of}
use Rattle.td_typing.specs.Types.{Types}
use Rattle.td_typed_trees.specs.declared.expression.Expression.{Expression}
use Rattle.td_typed_trees.specs.declared.tree.Typed.{Typed}
use Rattle.td_headings.specs.Catalogues.{CatalogueData}
use Rattle.td_headings.specs.Expressions.{IsTree, IsClosedExpression, no_tuple}
use Rattle.td_headings.specs.ForProofs.After.{condition_after}
use Rattle.td_headings.specs.Statements.{AreAssignments, IsCondition, TypesStatement, assignments_of, next_assignment, no_assignments, types_assignment, types_conditional}
use Rattle.td_headings.specs.declared.statement.TypedAssignment.{TypedAssignment}
use Rattle.td_headings.specs.declared.statement.TypedStatement.{TypedStatement}
use Rattle.td_headings.proofs.Deciding.{condition_is, is_condition}
use Rattle.td_headings.proofs.NoTuple.{in_no_tuple, at_relvars}

some_none : {A : Type 0} (a : A) → Some a ≡ None → ⊥
some_none a h = cc

other_error : {A P : Type 0} → ◌≡◌ {A = Result A TypeError} (Err OutOfMemory) (Err IllTyped) → P
other_error h = cc

module _ (c : CatalogueData) (a : Expr) where
  pub condition_tree : (u : Typed) → condition_after c.schema a ≡ Some u → IsTree c no_tuple u kind.Boolean
  condition_tree u h = record { expr = a; types = in_no_tuple c a u kind.Boolean (condition_is c a u h) }

  pub found_condition : (u : Typed) (x : Expression) → condition_after c.schema a ≡ Some u → IsClosedExpression c u kind.Boolean x → IsCondition c a x
  found_condition u x h w = record {
    expression = record {
      types = in_no_tuple c a x.tree x.kind (subst (λ k. Types c.schema (relvars_of c.schema) a x.tree k) (sym w.kind_) (subst (λ v. Types c.schema (relvars_of c.schema) a v kind.Boolean) (sym w.tree) (condition_is c a u h)));
      attributes = w.attributes;
      under = w.under;
    };
    kind_ = w.kind_;
  }

  none_found : condition_after c.schema a ≡ None → (x : Expression) → IsCondition c a x → ⊥
  none_found h x i =
      some_none x.tree (sym (is_condition c a x.tree (subst (λ k. Types c.schema (relvars_of c.schema) a x.tree k) i.kind_ (at_relvars c a x.tree x.kind i.expression.types))) ∙ h)

  pub condition_refused : {A : Type 0} (e : TypeError) → Fails e (condition_after c.schema a) → ◌≡◌ {A = Result A TypeError} (Err e) (Err IllTyped) → (x : Expression) → IsCondition c a x → ⊥
  condition_refused OutOfMemory h e = other_error e
  condition_refused IllTyped h e = none_found h

-- what a statement that is typed has
pub its_assignments : (c : CatalogueData) (as' : List Action) (x : TypedStatement) → TypesStatement c (statement.Assignment as') x → (xs : List TypedAssignment) × AreAssignments c as' xs
its_assignments c as' x (types_assignment {xs} h) = (xs, h)

pub its_condition : (c : CatalogueData) (a : Expr) (as' bs : List Action) (x : TypedStatement) → TypesStatement c (statement.Conditional a as' bs) x → (u : Expression) × IsCondition c a u
its_condition c a as' bs x (types_conditional {u} i p q) = (u, i)

pub its_first : (c : CatalogueData) (a : Expr) (as' bs : List Action) (x : TypedStatement) → TypesStatement c (statement.Conditional a as' bs) x → (xs : List TypedAssignment) × AreAssignments c as' xs
its_first c a as' bs x (types_conditional {xs} i p q) = (xs, p)

pub its_second : (c : CatalogueData) (a : Expr) (as' bs : List Action) (x : TypedStatement) → TypesStatement c (statement.Conditional a as' bs) x → (ys : List TypedAssignment) × AreAssignments c bs ys
its_second c a as' bs x (types_conditional {ys} i p q) = (ys, q)

-- ---- all its actions, and all its assignments
abbrev pub actions_of : Statement → List Action
actions_of (statement.Assignment as') = as'
actions_of (statement.Conditional a as' bs) = as' ++ bs

both : (c : CatalogueData) (as' bs : List Action) (xs ys : List TypedAssignment) → AreAssignments c as' xs → AreAssignments c bs ys → AreAssignments c (as' ++ bs) (xs ++ ys)
both c [] bs [] ys no_assignments q = q
both c (a ∷ as') bs (x ∷ xs) ys (next_assignment p ps) q = next_assignment p (both c as' bs xs ys ps q)
both c [] bs (x ∷ xs) ys p q = elim p [ ]
both c (a ∷ as') bs [] ys p q = elim p [ ]

pub are_all : (c : CatalogueData) (s : Statement) (x : TypedStatement) → TypesStatement c s x → AreAssignments c (actions_of s) (assignments_of x)
are_all c (statement.Assignment as') x (types_assignment h) = h
are_all c (statement.Conditional a as' bs) x (types_conditional {xs} {ys} i p q) = both c as' bs xs ys p q
