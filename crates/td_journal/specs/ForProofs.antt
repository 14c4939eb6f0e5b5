-- Words that only proofs and private functions use.
pub mod Refilled
pub mod Behind
use Rattle.std.specs.Prelude.{◌≡◌, ℕ, Bool, true, false, ◌==◌, if◌then◌else◌, List, ◌++◌, None, Option, Some, Result, Ok, Err}
use Rattle.std.specs.Io.KnownBytes.{IsAtEnd}
use Rattle.td_io.specs.Counted.{counted}
use Rattle.td_stamps.specs.declared.entry.Entry.{Entry}
use Rattle.td_frames.specs.declared.version.Version.{Version}
use Rattle.td_frames.specs.declared.version.Version.TheVariants.{First, Second}
use Rattle.td_journal.specs.Reading.{JournalHeader}
use Rattle.td_journal.specs.declared.error.JournalError.{JournalError}
use Rattle.td_journal.specs.declared.error.JournalError.TheVariants as journal_error
use Rattle.td_journal.specs.declared.reading.Unread.{Unread}
use Rattle.td_journal.specs.declared.reading.Unread.TheVariants.{ReadFault, OutOfMemory, Refused}

-- what a reader of a field, or of some, tells of the bytes that it took: whether these stood whole there; or that the
-- bytes ended inside them; or why they are refused
abbrev pub FieldRead : (List ℕ → JournalHeader (List ℕ)) → List ℕ → Result Bool Unread → Option (List ℕ) → ℕ → ℕ → Type 0
FieldRead at bytes (Ok true) left old new = ((more : List ℕ) → at (bytes ++ more) ≡ Ok (Some more)) × (new ≡ old)
FieldRead at bytes (Ok false) left old new = (at bytes ≡ Ok None) × IsAtEnd left × (new ≡ old)
FieldRead at bytes (Err ReadFault) left old new = new ≡ counted old
FieldRead at bytes (Err OutOfMemory) left old new = ⊥
FieldRead at bytes (Err (Refused e)) left old new = (at bytes ≡ Err e) × (new ≡ old)

-- and of a header, or of a part of it, that tells the version
abbrev pub HeaderRead : (List ℕ → JournalHeader (Version × List ℕ)) → List ℕ → Result (Option Version) Unread → Option (List ℕ) → ℕ → ℕ → Type 0
HeaderRead at bytes (Ok (Some v)) left old new = ((more : List ℕ) → at (bytes ++ more) ≡ Ok (Some (v, more))) × (new ≡ old)
HeaderRead at bytes (Ok None) left old new = (at bytes ≡ Ok None) × IsAtEnd left × (new ≡ old)
HeaderRead at bytes (Err ReadFault) left old new = new ≡ counted old
HeaderRead at bytes (Err OutOfMemory) left old new = ⊥
HeaderRead at bytes (Err (Refused e)) left old new = (at bytes ≡ Err e) × (new ≡ old)

-- the version of this byte
abbrev pub version_of : ℕ → Result (Option Version) Unread
version_of b = if b == 1 then Ok (Some First) else if b == 2 then Ok (Some Second) else Err (Refused journal_error.Version)

-- the version that a header tells, of which what is behind the version was read so
abbrev pub told_by : Version → Result Bool Unread → Result (Option Version) Unread
told_by v (Ok true) = Ok (Some v)
told_by v (Ok false) = Ok None
told_by v (Err e) = Err e

-- what a reader of frames tells of the bytes that it took
abbrev pub FramesRead : Result (List Entry) JournalError → Result (List Entry) Unread → Option (List ℕ) → ℕ → ℕ → Type 0
FramesRead said (Ok es) left old new = (said ≡ Ok es) × IsAtEnd left × (new ≡ old)
FramesRead said (Err ReadFault) left old new = new ≡ counted old
FramesRead said (Err OutOfMemory) left old new = new ≡ old
FramesRead said (Err (Refused e)) left old new = (said ≡ Err e) × (new ≡ old)
