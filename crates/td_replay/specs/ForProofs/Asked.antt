-- What a database is asked.
use Rattle.std.specs.Prelude.{◌≤◌, ℕ, List, Result, Ok, Err, length}
use Rattle.td_values.specs.Data.{Datum, no_attrs}
use Rattle.td_syntax.specs.declared.tree.Expr.{Expr}
use Rattle.td_grammar.specs.Grammar.{IsQuery}
use Rattle.td_typed_trees.specs.declared.expression.Expression.{Expression}
use Rattle.td_headings.specs.Catalogues.{CatalogueData}
use Rattle.td_headings.specs.Expressions.{IsExpression, no_tuple}
use Rattle.td_semantics.specs.Trees.{tree_means}
use Rattle.td_semantics.specs.Answers.{TellsRelvar}
use Rattle.td_semantics.specs.Databases.{DatabaseData, stored_relvars}
use Rattle.td_semantics.specs.declared.answer.Answer.{Answer}
use Rattle.td_semantics.specs.declared.error.RelvarError.TheVariants as relvar_error
use Rattle.td_semantics.specs.Answers.{SaysValue}
use Rattle.td_replica.specs.declared.refusal.AskError.{AskError}
use Rattle.td_replica.specs.declared.refusal.AskError.TheVariants as ask_error
use Rattle.td_replica.specs.declared.refusal.ValueError.{ValueError}
use Rattle.td_replica.specs.declared.refusal.ValueError.TheVariants as value_error
use Rattle.td_values.specs.Rows.{RowsData}

-- the text is this query, and the reply says what it means
pub record Means (d : DatabaseData) (text : List ℕ) (r : Answer Datum) : Type 0 where
  pub query : Expr
  pub expression : Expression
  pub reads : IsQuery text query
  pub types : IsExpression d.catalogue no_tuple query expression
  pub says : SaysValue r (tree_means d.catalogue (stored_relvars d.stored) expression.tree no_attrs)

-- the text is a query that is ill typed
pub record IsIllTyped (c : CatalogueData) (text : List ℕ) : Type 0 where
  pub query : Expr
  pub reads : IsQuery text query
  pub refused : (x : Expression) → IsExpression c no_tuple query x → ⊥

abbrev pub Answers : DatabaseData → List ℕ → Result (Answer Datum) AskError → Type 0
Answers d text (Ok r) = Means d text r
Answers d text (Err ask_error.Broken) = ⊥
Answers d text (Err ask_error.Syntax) = (e : Expr) → IsQuery text e → ⊥
Answers d text (Err ask_error.IllTyped) = IsIllTyped d.catalogue text
Answers d text (Err ask_error.OutOfMemory) = length text ≤ 8192

abbrev pub TellsNamed : DatabaseData → List ℕ → Result (Answer RowsData) ValueError → Type 0
TellsNamed d x (Ok a) = TellsRelvar d x (Ok a)
TellsNamed d x (Err value_error.Broken) = ⊥
TellsNamed d x (Err value_error.Unknown) = TellsRelvar d x (Err relvar_error.Unknown)
TellsNamed d x (Err value_error.OutOfMemory) = Unit {0}
