-- The reading of a journal, as a function of its bytes: first its header, field by field, of which all but the version
-- is known beforehand; then, as frames of this version, the entries whose frames stand whole. Bytes that end inside the
-- header are to be a front of it, and say that nothing was accepted; a frame that they end in is dropped.
use Rattle.std.specs.Prelude.{ℕ, List, [], ◌∷◌, length, codes, Option, None, Some, Result, Ok, Err, ◌==◌, if◌then◌else◌}
use Rattle.std.specs.Int.{w16, w32, to_be_bytes}
use Rattle.td_stamps.specs.declared.entry.Entry.{Entry}
use Rattle.td_frames.specs.Reading.{Entries, short, entries_at, most_entries}
use Rattle.td_frames.specs.declared.version.Version.{Version}
use Rattle.td_frames.specs.declared.version.Version.TheVariants.{First, Second}
use Rattle.td_journal.specs.Spelling.{journal}
use Rattle.td_journal.specs.declared.error.JournalError.{JournalError}
use Rattle.td_journal.specs.declared.error.JournalError.TheVariants as journal_error

-- what is read of a header, with what follows, or None where the bytes end inside it and are a front of it
abbrev pub JournalHeader : Type 0 → Type 0
JournalHeader A = Result (Option A) JournalError

-- a field that has these bytes, or is refused so
abbrev pub known_field_at : List ℕ → JournalError → List ℕ → JournalHeader (List ℕ)
known_field_at [] error bytes = Ok (Some bytes)
known_field_at (x ∷ xs) error [] = Ok None
known_field_at (x ∷ xs) error (b ∷ bytes) = if b == x then known_field_at xs error bytes else Err error

abbrev pub header_then : {A B : Type 0} → JournalHeader A → (A → JournalHeader B) → JournalHeader B
header_then (Ok (Some x)) next = next x
header_then (Ok None) next = Ok None
header_then (Err e) next = Err e

-- one field after the other
abbrev pub known_fields_at : List (List ℕ × JournalError) → List ℕ → JournalHeader (List ℕ)
known_fields_at [] bytes = Ok (Some bytes)
known_fields_at (f ∷ fs) bytes = header_then (known_field_at f.0 f.1 bytes) (known_fields_at fs)

-- the version
abbrev pub header_version_at : List ℕ → JournalHeader (Version × List ℕ)
header_version_at [] = Ok None
header_version_at (b ∷ bytes) =
    if b == 1 then Ok (Some (First, bytes))
    else if b == 2 then Ok (Some (Second, bytes))
    else Err journal_error.Version

-- the fields that say whose journal it is, and what each is refused as
abbrev pub owner_fields : ℕ → List ℕ → List (List ℕ × JournalError)
owner_fields site script =
    (to_be_bytes w16 site, journal_error.OtherSite) ∷ (to_be_bytes w32 (length script), journal_error.OtherScript) ∷ (script, journal_error.OtherScript) ∷ []

-- the version, and then whose journal it is
abbrev pub owned_at : ℕ → List ℕ → List ℕ → JournalHeader (Version × List ℕ)
owned_at site script bytes = header_then (header_version_at bytes) (λ x. header_then (known_fields_at (owner_fields site script) x.1) (λ rest. Ok (Some (x.0, rest))))

-- the letters first
abbrev pub header_at : ℕ → List ℕ → List ℕ → JournalHeader (Version × List ℕ)
header_at site script bytes = header_then (known_field_at (codes "JTDB") journal_error.Magic bytes) (owned_at site script)

-- the entries before the bytes' end; a frame that is none, the end of a stream among them, is refused
abbrev pub until_end : Entries → Result (List Entry) JournalError
until_end (es, Err short) = Ok es
until_end (es, r) = Err journal_error.BadFrame

abbrev pub frames_at : Version → List ℕ → Result (List Entry) JournalError
frames_at v bytes = until_end (entries_at v most_entries bytes)

-- what a journal says: the entries, how many bytes the header and their frames have, and the version
abbrev pub JournalContents : Type 0
JournalContents = List Entry × ℕ × Version

abbrev pub with_whole : ℕ → List ℕ → Version → Result (List Entry) JournalError → Result JournalContents JournalError
with_whole site script v (Ok es) = Ok (es, length (journal v site script es), v)
with_whole site script v (Err e) = Err e

-- where the header is cut nothing stands whole, and what is begun there is of the second version
abbrev pub behind_header : ℕ → List ℕ → JournalHeader (Version × List ℕ) → Result JournalContents JournalError
behind_header site script (Ok (Some x)) = with_whole site script x.0 (frames_at x.0 x.1)
behind_header site script (Ok None) = Ok ([], 0, Second)
behind_header site script (Err e) = Err e

-- what the bytes of the journal of this site say
abbrev pub journal_at : ℕ → List ℕ → List ℕ → Result JournalContents JournalError
journal_at site script bytes = behind_header site script (header_at site script bytes)
