-- An INSERT of tuples that are written out.
use Rattle.std.specs.Prelude.{◌≡◌, ℕ, List, [], ◌∷◌, length}
use Rattle.td_values.specs.Headings.{Header}
use Rattle.td_syntax.specs.declared.tree.BinaryOperator.TheVariants as binary
use Rattle.td_headings.specs.Reached.{named_relvars}
use Rattle.td_headings.specs.declared.statement.TypedAssignment.{TypedAssignment}
use Rattle.td_headings.specs.declared.statement.TypedStatement.{TypedStatement}
use Rattle.td_headings.specs.declared.statement.TypedStatement.TheVariants as statement
use Rattle.td_typed_trees.specs.declared.tree.Typed.{Typed}
use Rattle.td_typed_trees.specs.declared.tree.Typed.TheVariants as tree

-- the source of the assignment is its target united with a relation of so many tuples that are written out, each by an
-- expression that reads no relvar
pub record IsWrittenBy (a : TypedAssignment) (n many : ℕ) : Type 0 where
  pub target : a.target ≡ n
  pub heading : Header
  pub terms : List Typed
  pub source : a.source.tree ≡ tree.Binary binary.Union (tree.Relvar n) (tree.Relation heading terms)
  pub unread : named_relvars (tree.Relation heading terms) ≡ []
  pub each : many ≡ length terms

-- the statement is one such assignment
pub record IsWritten (x : TypedStatement) (n many : ℕ) : Type 0 where
  pub assignment : TypedAssignment
  pub alone : x ≡ statement.Assignment (assignment ∷ [])
  pub by : IsWrittenBy assignment n many
