-- What running one entry more would give.
use Rattle.std.specs.Prelude.{Option, None, Some, Result, Ok, Err}
use Rattle.std.specs.declared.alloc.AllocError.{AllocError}
use Rattle.td_assign.specs.declared.ran.Ran.{Ran}
use Rattle.td_stamps.specs.declared.entry.Entry.{Entry}
use Rattle.td_semantics.specs.Databases.{DatabaseData}
use Rattle.td_semantics.specs.Steps.{IsUnreadText}
use Rattle.td_semantics.specs.declared.outcome.Outcome.{Outcome}
use Rattle.td_replay.specs.Noted.{Notes}
use Rattle.td_replay.specs.ForProofs.Told.{Log, TellsOutcome}

-- the record is of a step of the entry
abbrev pub WouldNote : DatabaseData → Entry → Ran → Type 0
WouldNote d e r = (after : DatabaseData) × Notes d e r after

-- its outcome would be told, if it is read
abbrev pub WouldTell : DatabaseData → Log → Entry → Result (Option Outcome) AllocError → Type 0
WouldTell d log e (Ok (Some o)) = (after : DatabaseData) × (longer : Log) × TellsOutcome d log e o after longer
WouldTell d log e (Ok None) = IsUnreadText d.catalogue e.dialect e.text
WouldTell d log e (Err x) = Unit {0}
