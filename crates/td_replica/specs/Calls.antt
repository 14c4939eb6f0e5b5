-- What the calls on a site answer, and what they leave. Of the causes of refusal that stand, the first in the order of
-- each call's errors is answered, or want of memory in place of one that was not reached yet: a text over its limit and
-- an entry out of its ranges are found without memory.
use Rattle.std.specs.Prelude.{◌≡◌, ◌≤◌, ◌<◌, ◌+◌, ℕ, nat_lt, true, false, List, [], ◌∷◌, ◌++◌, length, Result, Ok, Err, if◌then◌else◌}
use Rattle.std.specs.List.{list_all}
use Rattle.td_values.specs.Data.{Datum, no_attrs}
use Rattle.td_syntax.specs.declared.tree.Expr.{Expr}
use Rattle.td_syntax.specs.declared.script.Statement.{Statement}
use Rattle.td_grammar.specs.Grammar.{IsQuery, query_bytes}
use Rattle.td_grammar.specs.Statements as grammar
use Rattle.td_grammar.specs.Statements.{statement_bytes}
use Rattle.td_headings.specs.Catalogues.{CatalogueData}
use Rattle.td_headings.specs.Expressions.{IsExpression, no_tuple}
use Rattle.td_headings.specs.Statements as typed
use Rattle.td_headings.specs.declared.statement.TypedStatement.{TypedStatement}
use Rattle.td_typed_trees.specs.declared.expression.Expression.{Expression}
use Rattle.td_semantics.specs.Trees.{tree_means}
use Rattle.td_stamps.specs.Entries.{in_range, stamp_of}
use Rattle.td_stamps.specs.Sets.{union}
use Rattle.td_stamps.specs.Checks.{check_of, next_of}
use Rattle.td_stamps.specs.declared.entry.Entry.{Entry}
use Rattle.td_stamps.specs.declared.entry.Stamp.{Stamp}
use Rattle.td_stamps.specs.declared.errors.CheckError.TheVariants as check
use Rattle.td_stamps.specs.declared.errors.NextError.{NextError}
use Rattle.td_semantics.specs.Answers.{SaysValue, TellsRelvar}
use Rattle.td_semantics.specs.Databases.{DatabaseData, stored_relvars}
use Rattle.td_semantics.specs.Scripts.{IsScriptOf}
use Rattle.td_semantics.specs.declared.answer.Answer.{Answer}
use Rattle.td_semantics.specs.declared.error.RelvarError.TheVariants as relvar_error
use Rattle.td_semantics.specs.Steps.{IsRead}
use Rattle.td_semantics.specs.declared.outcome.Outcome.{Outcome}
use Rattle.td_replica.specs.Seen.{Seen, AreOutcomes, Leaves, with_entries}
use Rattle.td_replica.specs.declared.calls.Issued.{Issued}
use Rattle.td_replica.specs.declared.calls.Taken.{Taken}
use Rattle.td_replica.specs.declared.refusal.AskError.{AskError}
use Rattle.td_replica.specs.declared.refusal.AskError.TheVariants as ask_error
use Rattle.td_replica.specs.declared.refusal.IssueError.{IssueError}
use Rattle.td_replica.specs.declared.refusal.IssueError.TheVariants as issue_error
use Rattle.td_replica.specs.declared.refusal.TakeError.{TakeError}
use Rattle.td_replica.specs.declared.refusal.TakeError.TheVariants as take_error
use Rattle.td_replica.specs.declared.refusal.TellError.{TellError}
use Rattle.td_replica.specs.declared.refusal.TellError.TheVariants as tell_error
use Rattle.td_replica.specs.declared.refusal.ValueError.{ValueError}
use Rattle.td_replica.specs.declared.refusal.ValueError.TheVariants as value_error
use Rattle.td_values.specs.Rows.{RowsData}

-- an open site stays as it was
abbrev pub Stays : Seen → Seen → Type 0
Stays s after = (s.live ≡ true) × (after ≡ s)

-- one that is not open stays as it was
abbrev pub StaysClosed : Seen → Seen → Type 0
StaysClosed s after = (s.live ≡ false) × (after ≡ s)

-- an open site is open no longer, and holds these entries, some of which its journal may lack
abbrev pub Closes : Seen → List Entry → Seen → Type 0
Closes s es after = (s.live ≡ true) × (after ≡ record { script = s.script; site = s.site; limit = s.limit; entries = es; live = false })

-- ---- issue: the site's next entry, of a text that is a well-typed statement of its script

-- it is written in the latest dialect
abbrev pub latest_dialect : ℕ
latest_dialect = grammar.latest

-- the entry, where the site has room for it
abbrev pub if_room : Seen → Entry → Result Entry IssueError
if_room s e = if nat_lt (length s.entries) s.limit then Ok e else Err issue_error.Full

abbrev pub numbered : Seen → List ℕ → Result (ℕ × ℕ) NextError → Result Entry IssueError
numbered s text (Err e) = Err issue_error.ClockEnd
numbered s text (Ok n) = if_room s (record { site = s.site; seq = n.0; clock = n.1; dialect = latest_dialect; text = text })

abbrev pub entry_of : Seen → List ℕ → Result Entry IssueError
entry_of s text = numbered s text (next_of s.site s.entries)

pub record IsStatementOf (script text : List ℕ) : Type 0 where
  pub catalogue : CatalogueData
  pub statement : TypedStatement
  pub defines : IsScriptOf script catalogue
  pub read : IsRead catalogue latest_dialect text statement

pub record IsIllTypedStatement (script text : List ℕ) : Type 0 where
  pub catalogue : CatalogueData
  pub statement : Statement
  pub defines : IsScriptOf script catalogue
  pub reads : grammar.IsStatementIn latest_dialect text statement
  pub refused : (x : TypedStatement) → typed.TypesStatement catalogue statement x → ⊥

-- it is told with its stamp and its outcome, which is the last of the history's
pub record IssuesEntry (s : Seen) (text : List ℕ) (i : Issued) (after : Seen) : Type 0 where
  pub entry : Entry
  pub live : s.live ≡ true
  pub statement : IsStatementOf s.script text
  pub next : entry_of s text ≡ Ok entry
  pub stamp : i.stamp ≡ stamp_of entry
  pub last : after ≡ with_entries s (s.entries ++ entry ∷ [])
  pub union : after.entries ≡ union s.entries (entry ∷ [])
  pub before : List (Stamp × Outcome)
  pub were : AreOutcomes s before
  pub are : AreOutcomes after (before ++ (i.stamp, i.outcome) ∷ [])

abbrev pub Issues : Seen → List ℕ → Result Issued IssueError → Seen → Type 0
Issues s text (Ok i) after = IssuesEntry s text i after
Issues s text (Err issue_error.Broken) after = StaysClosed s after
Issues s text (Err issue_error.Syntax) after = Stays s after × ((t : Statement) → grammar.IsStatementIn latest_dialect text t → ⊥)
Issues s text (Err issue_error.IllTyped) after = Stays s after × IsIllTypedStatement s.script text
Issues s text (Err issue_error.ClockEnd) after = Stays s after × IsStatementOf s.script text × (entry_of s text ≡ Err issue_error.ClockEnd)
Issues s text (Err issue_error.Full) after = Stays s after × IsStatementOf s.script text × (entry_of s text ≡ Err issue_error.Full)
Issues s text (Err issue_error.OutOfMemory) after = Stays s after × (length text ≤ statement_bytes)
Issues s text (Err issue_error.JournalWrite) after = IsStatementOf s.script text × (e : Entry) × (entry_of s text ≡ Ok e) × Closes s (s.entries ++ e ∷ []) after

-- ---- take: the union with a batch, whose fresh entries are counted once

pub record TakesBatch (s : Seen) (batch : List Entry) (t : Taken) (after : Seen) : Type 0 where
  pub live : s.live ≡ true
  pub fresh : check_of s.entries s.limit batch ≡ Ok t.fresh
  pub known : t.fresh + t.known ≡ length batch
  pub union : after ≡ with_entries s (union s.entries batch)

abbrev pub Takes : Seen → List Entry → Result Taken TakeError → Seen → Type 0
Takes s batch (Ok t) after = TakesBatch s batch t after
Takes s batch (Err take_error.Broken) after = StaysClosed s after
Takes s batch (Err take_error.BadEntry) after = Stays s after × (check_of s.entries s.limit batch ≡ Err check.BadEntry)
Takes s batch (Err (take_error.Clash site seq)) after = Stays s after × (check_of s.entries s.limit batch ≡ Err (check.Clash site seq))
Takes s batch (Err take_error.Full) after = Stays s after × (check_of s.entries s.limit batch ≡ Err check.Full)
Takes s batch (Err take_error.OutOfMemory) after = Stays s after × (list_all in_range batch ≡ true)
Takes s batch (Err take_error.JournalWrite) after = (n : ℕ) × (check_of s.entries s.limit batch ≡ Ok n) × (0 < n) × Closes s (union s.entries batch) after

-- ---- ask: what a query means over the relvars that the history leaves

pub record AsksQuery (s : Seen) (text : List ℕ) (r : Answer Datum) : Type 0 where
  pub database : DatabaseData
  pub query : Expr
  pub expression : Expression
  pub live : s.live ≡ true
  pub leaves : Leaves s database
  pub reads : IsQuery text query
  pub types : IsExpression database.catalogue no_tuple query expression
  pub says : SaysValue r (tree_means database.catalogue (stored_relvars database.stored) expression.tree no_attrs)

pub record IsIllTypedQuery (script text : List ℕ) : Type 0 where
  pub catalogue : CatalogueData
  pub query : Expr
  pub defines : IsScriptOf script catalogue
  pub reads : IsQuery text query
  pub refused : (x : Expression) → IsExpression catalogue no_tuple query x → ⊥

abbrev pub Asks : Seen → List ℕ → Result (Answer Datum) AskError → Type 0
Asks s text (Ok r) = AsksQuery s text r
Asks s text (Err ask_error.Broken) = s.live ≡ false
Asks s text (Err ask_error.Syntax) = (s.live ≡ true) × ((e : Expr) → IsQuery text e → ⊥)
Asks s text (Err ask_error.IllTyped) = (s.live ≡ true) × IsIllTypedQuery s.script text
Asks s text (Err ask_error.OutOfMemory) = (s.live ≡ true) × (length text ≤ query_bytes)

-- ---- value_of: what a relvar has after the history

abbrev pub TellsValue : Seen → List ℕ → Result (Answer RowsData) ValueError → Type 0
TellsValue s x (Ok a) = (s.live ≡ true) × (d : DatabaseData) × Leaves s d × TellsRelvar d x (Ok a)
TellsValue s x (Err value_error.Broken) = s.live ≡ false
TellsValue s x (Err value_error.Unknown) = (s.live ≡ true) × (d : DatabaseData) × Leaves s d × TellsRelvar d x (Err relvar_error.Unknown)
TellsValue s x (Err value_error.OutOfMemory) = s.live ≡ true

-- ---- outcomes: those of the history, in stamp order

abbrev pub TellsOutcomes : Seen → Result (List (Stamp × Outcome)) TellError → Type 0
TellsOutcomes s (Ok os) = (s.live ≡ true) × AreOutcomes s os
TellsOutcomes s (Err tell_error.Broken) = s.live ≡ false
TellsOutcomes s (Err tell_error.OutOfMemory) = s.live ≡ true
