-- What is told of the frames behind a header, which a new site has taken.
use Rattle.std.specs.Prelude.{◌≡◌, ℕ, List, length, Ok, Err}
use Rattle.std.specs.Io.KnownBytes.{Consumes, IsAtEnd}
use Rattle.td_io.specs.Counted.{counted}
use Rattle.td_io.specs.Views.{Input}
use Rattle.td_stamps.specs.declared.entry.Entry.{Entry}
use Rattle.td_frames.specs.declared.version.Version.{Version}
use Rattle.td_replica.specs.Calls.{TakesBatch}
use Rattle.td_replica.specs.Seen.{Seen}
use Rattle.td_replica.specs.declared.calls.Taken.{Taken}
use Rattle.td_replica.specs.declared.refusal.TakeError.{TakeError}
use Rattle.td_replica.specs.declared.refusal.TakeError.TheVariants as take_error
use Rattle.td_journal.specs.declared.reading.Unread.{Unread}
use Rattle.td_journal.specs.declared.reading.Unread.TheVariants as unread_by
use Rattle.td_journal.specs.Reading.{frames_at}
use Rattle.td_journal.specs.Reopening.{ReadsOn, RefusesAll}
use Rattle.td_journal.specs.Spelling.{journal}
use Rattle.td_journal.specs.declared.reopening.ReopenError.{ReopenError}
use Rattle.td_journal.specs.declared.reopening.ReopenError.TheVariants.{Open, OutOfMemory, ReadFault, Refused, Take}

pub record Refills (v : Version) (s : Seen) (old new : Input) (after : Seen) (whole : ℕ) : Type 0 where
  pub bytes : List ℕ
  pub reads : ReadsOn old new bytes
  pub all : IsAtEnd new.left
  pub entries : List Entry
  pub says : frames_at v bytes ≡ Ok entries
  pub whole_is : whole ≡ length (journal v s.site s.script entries)
  pub taken : Taken
  pub takes : TakesBatch s entries taken after

pub record RefusesFrames (v : Version) (s : Seen) (old new : Input) (e : TakeError) : Type 0 where
  pub bytes : List ℕ
  pub reads : ReadsOn old new bytes
  pub all : IsAtEnd new.left
  pub entries : List Entry
  pub says : frames_at v bytes ≡ Ok entries
  pub refuses : RefusesAll s entries e

abbrev pub RefillsNot : Version → Seen → Input → Input → ReopenError → Type 0
RefillsNot v s old new (Open e) = ⊥
RefillsNot v s old new OutOfMemory = (bytes : List ℕ) × ReadsOn old new bytes
RefillsNot v s old new ReadFault = (bytes : List ℕ) × Consumes old.left new.left bytes × (new.failures ≡ counted old.failures)
RefillsNot v s old new (Refused e) = (bytes : List ℕ) × ReadsOn old new bytes × (frames_at v bytes ≡ Err e)
RefillsNot v s old new (Take e) = RefusesFrames v s old new e

abbrev pub unread : Unread → ReopenError
unread unread_by.ReadFault = ReadFault
unread unread_by.OutOfMemory = OutOfMemory
unread (unread_by.Refused e) = Refused e

abbrev pub untaken : TakeError → ReopenError
untaken take_error.OutOfMemory = OutOfMemory
untaken e = Take e
