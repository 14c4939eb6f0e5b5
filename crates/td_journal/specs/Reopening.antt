-- What reopening a site answers: from the bytes of its journal alone, which are read to their end or to the first field
-- that misses. A reader is told of by the bytes that it has left and by the failures that it counted, before and after.
use Rattle.std.specs.Prelude.{◌≡◌, ℕ, List, [], IsOk, Some, Ok, Err}
use Rattle.std.specs.Io.KnownBytes.{Consumes, IsAtEnd}
use Rattle.td_io.specs.Counted.{counted}
use Rattle.td_io.specs.Views.{Input}
use Rattle.td_stamps.specs.Checks.{check_of}
use Rattle.td_stamps.specs.Sets.{union}
use Rattle.td_stamps.specs.declared.entry.Entry.{Entry}
use Rattle.td_frames.specs.declared.version.Version.{Version}
use Rattle.td_replica.specs.Calls.{Takes}
use Rattle.td_replica.specs.NewSites.{OpensSite, newly_opened}
use Rattle.td_replica.specs.Seen.{Seen, with_entries}
use Rattle.td_replica.specs.declared.refusal.TakeError.{TakeError}
use Rattle.td_replica.specs.declared.refusal.TakeError.TheVariants as take_error
use Rattle.td_journal.specs.Reading.{header_at, journal_at}
use Rattle.td_journal.specs.declared.reopening.ReopenError.{ReopenError}
use Rattle.td_journal.specs.declared.reopening.ReopenError.TheVariants.{Open, OutOfMemory, ReadFault, Refused, Take}

-- these bytes were read, and no failure was counted
abbrev pub ReadsOn : Input → Input → List ℕ → Type 0
ReadsOn old new bytes = Consumes old.left new.left bytes × (new.failures ≡ old.failures)

-- a new site is opened
abbrev pub IsOpened : List ℕ → ℕ → ℕ → Type 0
IsOpened script site limit = OpensSite script site limit (Ok (newly_opened script site limit))

-- a site that was opened, and holds nothing yet
abbrev pub IsNew : Seen → Type 0
IsNew s = OpensSite s.script s.site s.limit (Ok s)

-- a site that has taken what its journal says, how many bytes of it stand whole, and its version
pub record ReopensSite (script : List ℕ) (site limit : ℕ) (old new : Input) (s : Seen) (whole : ℕ) (version : Version) : Type 0 where
  pub opens : IsOpened script site limit
  pub bytes : List ℕ
  pub reads : ReadsOn old new bytes
  pub all : IsAtEnd new.left
  pub entries : List Entry
  pub says : journal_at site script bytes ≡ Ok (entries, whole, version)
  pub fits : IsOk (check_of [] limit entries)
  pub holds : s ≡ with_entries (newly_opened script site limit) (union [] entries)

-- a new site would refuse what the journal says
abbrev pub RefusesAll : Seen → List Entry → TakeError → Type 0
RefusesAll s es take_error.Broken = ⊥
RefusesAll s es take_error.OutOfMemory = ⊥
RefusesAll s es take_error.JournalWrite = ⊥
RefusesAll s es e = Takes s es (Err e) s

pub record RefusesJournal (script : List ℕ) (site limit : ℕ) (old new : Input) (e : TakeError) : Type 0 where
  pub bytes : List ℕ
  pub reads : ReadsOn old new bytes
  pub all : IsAtEnd new.left
  pub entries : List Entry
  pub whole : ℕ
  pub version : Version
  pub says : journal_at site script bytes ≡ Ok (entries, whole, version)
  pub refuses : RefusesAll (newly_opened script site limit) entries e

-- Why there is no site. Nothing is read where none is opened; memory for entries is wanted behind a whole header alone.
abbrev pub ReopensNot : List ℕ → ℕ → ℕ → Input → Input → ReopenError → Type 0
ReopensNot script site limit old new (Open e) = OpensSite script site limit (Err e) × (new ≡ old)
ReopensNot script site limit old new OutOfMemory =
    IsOpened script site limit × (bytes : List ℕ) × (version : Version) × (rest : List ℕ) × ReadsOn old new bytes
    × (header_at site script bytes ≡ Ok (Some (version, rest)))
ReopensNot script site limit old new ReadFault = IsOpened script site limit × (bytes : List ℕ) × Consumes old.left new.left bytes × (new.failures ≡ counted old.failures)
ReopensNot script site limit old new (Refused e) = IsOpened script site limit × (bytes : List ℕ) × ReadsOn old new bytes × (journal_at site script bytes ≡ Err e)
ReopensNot script site limit old new (Take e) = IsOpened script site limit × RefusesJournal script site limit old new e

-- ---- of a site that was opened before

abbrev pub Retakes : Seen → Input → Input → Seen → ℕ → Version → Type 0
Retakes s old new after whole version = ReopensSite s.script s.site s.limit old new after whole version

abbrev pub RetakesNot : Seen → Input → Input → ReopenError → Type 0
RetakesNot s old new e = ReopensNot s.script s.site s.limit old new e
