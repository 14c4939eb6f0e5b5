-- The footprint of a statement: the base relvars on which its outcome and its differences hang.
use Rattle.std.specs.Prelude.{◌≡◌, ℕ, List, Some}
use Rattle.std.specs.List.{Contains}
use Rattle.td_headings.specs.Catalogues.{CatalogueData}
use Rattle.td_headings.specs.Reached.{ReadsRelvar}
use Rattle.td_headings.specs.Statements.{IsTarget, assignments_of, condition_of}
use Rattle.td_headings.specs.declared.defined.Test.{Test}
use Rattle.td_headings.specs.declared.defined.Test.TheVariants as test
use Rattle.td_headings.specs.declared.statement.TypedAssignment.{TypedAssignment}
use Rattle.td_headings.specs.declared.statement.TypedStatement.{TypedStatement}
use Rattle.td_typed_trees.specs.declared.expression.Expression.{Expression}
use Rattle.td_semantics.specs.Databases.{DatabaseData, stored_relvars}
use Rattle.td_semantics.specs.Steps.{IsRead}

-- a KEY reads its relvar, a CONSTRAINT the base relvars that its expression reads, virtual ones expanded
abbrev pub TestReads : CatalogueData → Test → ℕ → Type 0
TestReads c (test.Key m key) n = n ≡ m
TestReads c (test.Constraint x u) n = ReadsRelvar c.origins u n

-- the targets, what the condition and the sources read, whichever are evaluated, and what each test reads that reads a
-- target
pub data InFootprint (c : CatalogueData) (x : TypedStatement) : ℕ → Type 0 where
  target : {n : ℕ} → IsTarget x n → InFootprint c x n
  by_condition : {n : ℕ} {u : Expression} → condition_of x ≡ Some u → ReadsRelvar c.origins u.tree n → InFootprint c x n
  by_source : {n : ℕ} {a : TypedAssignment} → Contains (assignments_of x) a → ReadsRelvar c.origins a.source.tree n → InFootprint c x n
  by_test : {m n : ℕ} {t : Test} → Contains c.tests t → TestReads c t m → IsTarget x m → TestReads c t n → InFootprint c x n

-- of a text: that of its statement; an unread text has none
pub record IsInFootprint (c : CatalogueData) (dialect : ℕ) (text : List ℕ) (n : ℕ) : Type 0 where
  pub statement : TypedStatement
  pub reads : IsRead c dialect text statement
  pub within : InFootprint c statement n

-- a target of a text: one of its statement's; an unread text has none
pub record IsTargetOfText (c : CatalogueData) (dialect : ℕ) (text : List ℕ) (n : ℕ) : Type 0 where
  pub statement : TypedStatement
  pub reads : IsRead c dialect text statement
  pub target : IsTarget statement n

-- databases of one catalogue that agree on the footprint of the text
pub record AgreeOnFootprint (d e : DatabaseData) (dialect : ℕ) (text : List ℕ) : Type 0 where
  pub catalogue : d.catalogue ≡ e.catalogue
  pub relvars : (n : ℕ) → IsInFootprint d.catalogue dialect text n → stored_relvars d.stored n ≡ stored_relvars e.stored n
