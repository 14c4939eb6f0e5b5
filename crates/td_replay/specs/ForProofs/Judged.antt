-- Whether a text that is issued is a statement of a catalogue.
use Rattle.std.specs.Prelude.{◌≤◌, ℕ, List, Result, Ok, Err, length}
use Rattle.td_syntax.specs.declared.script.Statement.{Statement}
use Rattle.td_grammar.specs.Statements as grammar
use Rattle.td_headings.specs.Catalogues.{CatalogueData}
use Rattle.td_headings.specs.Statements.{TypesNoStatement}
use Rattle.td_headings.specs.declared.statement.TypedStatement.{TypedStatement}
use Rattle.td_replica.specs.Calls.{latest_dialect}
use Rattle.td_semantics.specs.Steps.{IsRead}
use Rattle.td_replica.specs.declared.refusal.IssueError.{IssueError}
use Rattle.td_replica.specs.declared.refusal.IssueError.TheVariants as issue_error

-- why it is none; want of memory tells that the text is within its limit
abbrev pub IsRefusal : CatalogueData → List ℕ → IssueError → Type 0
IsRefusal c text issue_error.Syntax = (t : Statement) → grammar.IsStatementIn latest_dialect text t → ⊥
IsRefusal c text issue_error.IllTyped = (t : Statement) × grammar.IsStatementIn latest_dialect text t × TypesNoStatement c t
IsRefusal c text issue_error.OutOfMemory = length text ≤ 8192
IsRefusal c text issue_error.Broken = ⊥
IsRefusal c text issue_error.ClockEnd = ⊥
IsRefusal c text issue_error.Full = ⊥
IsRefusal c text issue_error.JournalWrite = ⊥

abbrev pub Judges : CatalogueData → List ℕ → Result (Unit {0}) IssueError → Type 0
Judges c text (Ok u) = (x : TypedStatement) × IsRead c latest_dialect text x
Judges c text (Err e) = IsRefusal c text e
