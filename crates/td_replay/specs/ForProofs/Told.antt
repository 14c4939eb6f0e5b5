-- What running one entry more gives.
use Rattle.std.specs.Prelude.{◌≡◌, ℕ, List, [], ◌∷◌, ◌++◌, map, Option, None, Some, Result, Ok, Err}
use Rattle.std.specs.declared.alloc.AllocError.{AllocError}
use Rattle.td_assign.specs.declared.ran.Ran.{Ran}
use Rattle.td_headings.specs.declared.statement.TypedStatement.{TypedStatement}
use Rattle.td_stamps.specs.declared.entry.Entry.{Entry}
use Rattle.td_stamps.specs.declared.entry.Stamp.{Stamp}
use Rattle.td_stamps.specs.Entries.{stamp_of}
use Rattle.td_stamps.specs.Sets.{Holding}
use Rattle.td_stamps.specs.History.{History}
use Rattle.td_semantics.specs.Databases.{DatabaseData}
use Rattle.td_semantics.specs.Scripts.{OpensOn}
use Rattle.td_semantics.specs.Steps.{IsRead, IsUnreadText}
use Rattle.td_semantics.specs.declared.outcome.Outcome.{Outcome}
use Rattle.td_replica.specs.Calls.{entry_of}
use Rattle.td_replica.specs.Seen.{Seen}
use Rattle.td_replica.specs.declared.refusal.IssueError.{IssueError}
use Rattle.td_replica.specs.declared.refusal.IssueError.TheVariants as issue_error
use Rattle.td_replay.specs.Noted.{IsLegalDatabase, Notes, opened_by}

-- the script opens a database
abbrev pub IsAccepted : List ℕ → Type 0
IsAccepted script = (d : DatabaseData) × OpensOn script None d

abbrev pub Outcomes : Type 0
Outcomes = List (Stamp × Outcome)

abbrev pub Log : Type 0
Log = List (Stamp × Ran)

abbrev pub outcome_of : Stamp × Ran → Stamp × Outcome
outcome_of p = (p.0, p.1.outcome)

abbrev pub outcomes_of : Log → Outcomes
outcomes_of log = map outcome_of log

-- these records are those of the entries' steps, which lead here from what the script opens
pub record IsLogged (script : List ℕ) (es : List Entry) (log : Log) (d : DatabaseData) : Type 0 where
  pub opens : OpensOn script None (opened_by d.catalogue)
  pub sound : IsLegalDatabase (opened_by d.catalogue)
  pub runs : History Notes (opened_by d.catalogue) es log d

-- one entry more ran, and left this record
pub record RunsNext (d : DatabaseData) (log : Log) (e : Entry) (r : Ran) (after : DatabaseData) (longer : Log) : Type 0 where
  pub notes : Notes d e r after
  pub log_is : longer ≡ log ++ (stamp_of e, r) ∷ []

abbrev pub RunsSome : DatabaseData → Log → Entry → DatabaseData → Log → Type 0
RunsSome d log e after longer = (r : Ran) × RunsNext d log e r after longer

-- its outcome is told, where it is read; else all stays
pub record TellsOutcome (d : DatabaseData) (log : Log) (e : Entry) (o : Outcome) (after : DatabaseData) (longer : Log) : Type 0 where
  pub ran : Ran
  pub runs : RunsNext d log e ran after longer
  pub told : o ≡ ran.outcome
  pub statement : TypedStatement
  pub read : IsRead d.catalogue e.dialect e.text statement

abbrev pub TellsNext : DatabaseData → Log → Entry → Result (Option Outcome) AllocError → DatabaseData → Log → Type 0
TellsNext d log e (Ok (Some o)) after longer = TellsOutcome d log e o after longer
TellsNext d log e (Ok None) after longer = (after ≡ d) × (longer ≡ log) × IsUnreadText d.catalogue e.dialect e.text
TellsNext d log e (Err x) after longer = (after ≡ d) × (longer ≡ log)

-- it is held, likewise
abbrev pub HoldsNext : Holding → Entry → Result (Option Outcome) AllocError → Holding → Type 0
HoldsNext h e (Ok (Some o)) after = after ≡ record h { entries = h.entries ++ e ∷ [] }
HoldsNext h e (Ok None) after = after ≡ h
HoldsNext h e (Err x) after = after ≡ h

-- the next entry, or why there is none; want of memory tells nothing
abbrev pub Numbers : Seen → List ℕ → Result Entry IssueError → Type 0
Numbers s text (Ok e) = entry_of s text ≡ Ok e
Numbers s text (Err issue_error.ClockEnd) = entry_of s text ≡ Err issue_error.ClockEnd
Numbers s text (Err issue_error.Full) = entry_of s text ≡ Err issue_error.Full
Numbers s text (Err issue_error.OutOfMemory) = Unit {0}
Numbers s text (Err issue_error.Broken) = ⊥
Numbers s text (Err issue_error.Syntax) = ⊥
Numbers s text (Err issue_error.IllTyped) = ⊥
Numbers s text (Err issue_error.JournalWrite) = ⊥
