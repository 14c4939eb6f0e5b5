-- Which statements are well typed. Each assignment's source is one expression over its target.
use Rattle.std.specs.Prelude.{◌≡◌, ℕ, false, List, [], ◌∷◌, ◌++◌, map, Option, Some, None, slice_get}
use Rattle.std.specs.List.{Contains}
use Rattle.td_values.specs.Headings.{Header}
use Rattle.td_values.specs.declared.TypeKind.TheVariants as kind
use Rattle.td_syntax.specs.declared.tree.Expr.{Expr}
use Rattle.td_syntax.specs.declared.tree.Expr.TheVariants as e
use Rattle.td_syntax.specs.declared.tree.BinaryOperator.TheVariants as binary
use Rattle.td_syntax.specs.declared.tree.UnaryOperator.TheVariants as unary
use Rattle.td_syntax.specs.declared.tree.Extension.TheVariants as extension
use Rattle.td_syntax.specs.declared.tree.Named.{Named}
use Rattle.td_syntax.specs.declared.script.Action.{Action}
use Rattle.td_syntax.specs.declared.script.Action.TheVariants as action
use Rattle.td_syntax.specs.declared.script.Statement.{Statement}
use Rattle.td_syntax.specs.declared.script.Statement.TheVariants as statement
use Rattle.td_schema.specs.Kinds.{Name}
use Rattle.td_schema.specs.Schemas.{relvar_named}
use Rattle.td_typed_trees.specs.declared.expression.Expression.{Expression}
use Rattle.td_typed_trees.specs.declared.tree.Typed.{Typed}
use Rattle.td_headings.specs.Catalogues.{CatalogueData}
use Rattle.td_headings.specs.Expressions.{IsExpression, no_tuple}
use Rattle.td_headings.specs.declared.defined.Origin.TheVariants as origin
use Rattle.td_headings.specs.declared.statement.TypedAssignment.{TypedAssignment}
use Rattle.td_headings.specs.declared.statement.TypedStatement.{TypedStatement}
use Rattle.td_headings.specs.declared.statement.TypedStatement.TheVariants as typed

-- INSERT is an assignment of a union; DELETE of the tuples for which the condition is false, and without one of none;
-- UPDATE of the tuples that are not selected united with the selected ones changed. So each but an assignment as
-- written reads its target, a DELETE of all too, whose source is empty whatever the target holds.
abbrev pub target_of : Action → Name
target_of (action.Assign x a) = x
target_of (action.Insert x a) = x
target_of (action.Delete x c) = x
target_of (action.Update x c all) = x

abbrev pub source_of : Action → Expr
source_of (action.Assign x a) = a
source_of (action.Insert x a) = e.Binary binary.Union (e.Name x) a
source_of (action.Delete x None) = e.Where (e.Name x) (e.Truth false)
source_of (action.Delete x (Some c)) = e.Where (e.Name x) (e.Unary unary.Not c)
source_of (action.Update x None all) = e.Extend extension.Assign (e.Name x) all
source_of (action.Update x (Some c) all) = e.Binary binary.Union (e.Where (e.Name x) (e.Unary unary.Not c)) (e.Extend extension.Assign (e.Where (e.Name x) c) all)

-- The target is a real relvar, and the source has its heading. So an item of an UPDATE names an attribute and has its
-- type.
pub record IsAssignment (c : CatalogueData) (a : Action) (x : TypedAssignment) : Type 0 where
  pub relvar : Named Header
  pub keys : List (List Name)
  pub opening : Option Typed
  pub names : relvar_named c.schema (target_of a) ≡ Some (x.target, relvar)
  pub is_real : slice_get c.origins x.target ≡ Some (origin.Base keys opening)
  pub source : IsExpression c no_tuple (source_of a) x.source
  pub kind_ : x.source.kind ≡ kind.Relation relvar.value

pub data AreAssignments (c : CatalogueData) : List Action → List TypedAssignment → Type 0 where
  no_assignments : AreAssignments c [] []
  next_assignment : {a : Action} {x : TypedAssignment} {as' : List Action} {xs : List TypedAssignment} → IsAssignment c a x → AreAssignments c as' xs → AreAssignments c (a ∷ as') (x ∷ xs)

-- a condition is BOOLEAN
pub record IsCondition (c : CatalogueData) (a : Expr) (u : Expression) : Type 0 where
  pub expression : IsExpression c no_tuple a u
  pub kind_ : u.kind ≡ kind.Boolean

-- x is the statement, typed: of a conditional one all assignments are typed, whichever are made
pub data TypesStatement (c : CatalogueData) : Statement → TypedStatement → Type 0 where
  types_assignment : {as' : List Action} {xs : List TypedAssignment}
      → AreAssignments c as' xs
      → TypesStatement c (statement.Assignment as') (typed.Assignment xs)
  types_conditional : {a : Expr} {u : Expression} {as' bs : List Action} {xs ys : List TypedAssignment}
      → IsCondition c a u
      → AreAssignments c as' xs
      → AreAssignments c bs ys
      → TypesStatement c (statement.Conditional a as' bs) (typed.Conditional u xs ys)

-- no rule types it
abbrev pub TypesNoStatement : CatalogueData → Statement → Type 0
TypesNoStatement c s = (x : TypedStatement) → TypesStatement c s x → ⊥

-- the condition of a statement, and all its assignments, whichever are made
abbrev pub condition_of : TypedStatement → Option Expression
condition_of (typed.Assignment xs) = None
condition_of (typed.Conditional u xs ys) = Some u

abbrev pub assignments_of : TypedStatement → List TypedAssignment
assignments_of (typed.Assignment xs) = xs
assignments_of (typed.Conditional u xs ys) = xs ++ ys

-- the relvar at this place may be assigned
abbrev pub IsTarget : TypedStatement → ℕ → Type 0
IsTarget s n = Contains (map (λ (x : TypedAssignment). x.target) (assignments_of s)) n
