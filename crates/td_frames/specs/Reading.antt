-- The reading of frames, field by field: a value and the bytes after it, or the first field that misses.
use Rattle.std.specs.Prelude.{◌≡◌, ℕ, zero, suc, Bool, true, ◌&&◌, List, [], ◌∷◌, ◌++◌, length, take, drop, codes, Option, Some, None, Result, Ok, Err, slice_index, ◌-◌, nat_le, nat_lt, ◌==◌, if◌then◌else◌}
use Rattle.std.specs.FinMap as by_site
use Rattle.std.specs.Int.{w16, w32, w64, from_be_bytes}
use Rattle.std.specs.Str.{bytes_eq, is_utf8}
use Rattle.std.specs.Io.KnownBytes.{IsAtEnd}
use Rattle.td_io.specs.Counted.{counted}
use Rattle.td_stamps.specs.Vectors.{VersionVector}
use Rattle.td_stamps.specs.declared.entry.Entry.{Entry}
use Rattle.td_frames.specs.declared.fields.Head.{Head}
use Rattle.td_frames.specs.declared.error.FrameError.{FrameError}
use Rattle.td_frames.specs.declared.error.FrameError.TheVariants.{OutOfMemory, ReadFault, Cut, Magic, Version as OtherVersion, BadFrame}
use Rattle.td_frames.specs.declared.greeting.Greeting.{Greeting}
use Rattle.td_frames.specs.declared.version.Version.{Version}
use Rattle.td_frames.specs.declared.version.Version.TheVariants.{First, Second}

-- what misses: the bytes end before the field is whole; they are no greeting, or one of another version; or the field
-- has no such value
pub data Miss : Type 0 where
  short : Miss
  magic : Miss
  version : Miss
  bad : Miss

-- a field of so many bytes, told as a value where it passes a test; else this misses
abbrev pub checked_at : {A : Type 0} → ℕ → (List ℕ → Bool) → (List ℕ → A) → Miss → List ℕ → Result (A × List ℕ) Miss
checked_at n test value miss bytes =
    if nat_lt (length bytes) n then Err short
    else if test (take n bytes) then Ok (value (take n bytes), drop n bytes)
    else Err miss

-- one thing, and then what follows it
abbrev pub then_at : {A B : Type 0} → Result (A × List ℕ) Miss → (A → List ℕ → Result B Miss) → Result B Miss
then_at (Ok x) next = next x.0 x.1
then_at (Err m) next = Err m

-- the letters HTDB, by which a greeting is known
abbrev pub magic_at : List ℕ → Result (Unit {0} × List ℕ) Miss
magic_at bytes = checked_at 4 (λ b. bytes_eq b (codes "HTDB")) (λ b. tt) magic bytes

-- the version of a greeting, which is 2
abbrev pub version_at : List ℕ → Result (Unit {0} × List ℕ) Miss
version_at bytes = checked_at 1 (λ b. bytes_eq b (2 ∷ [])) (λ b. tt) version bytes

-- a site, which comes after the last one
abbrev pub site_at : ℕ → List ℕ → Result (ℕ × List ℕ) Miss
site_at last bytes = checked_at 2 (λ b. nat_lt last (from_be_bytes w16 b)) (from_be_bytes w16) bad bytes

-- the length of a script, at most 65,536
abbrev pub length_at : List ℕ → Result (ℕ × List ℕ) Miss
length_at bytes = checked_at 4 (λ b. nat_le (from_be_bytes w32 b) 65536) (from_be_bytes w32) bad bytes

-- a text of this length, which is UTF-8
abbrev pub utf8_at : ℕ → List ℕ → Result (List ℕ × List ℕ) Miss
utf8_at n bytes = checked_at n is_utf8 (λ b. b) bad bytes

abbrev pub script_at : List ℕ → Result (List ℕ × List ℕ) Miss
script_at bytes = then_at (length_at bytes) utf8_at

-- how many sites a version vector has
abbrev pub count_at : List ℕ → Result (ℕ × List ℕ) Miss
count_at bytes = checked_at 2 (λ b. true) (from_be_bytes w16) bad bytes

-- a site's number, 1 to 1,000,000,000
abbrev pub number_at : List ℕ → Result (ℕ × List ℕ) Miss
number_at bytes = checked_at 4 (λ b. nat_le 1 (from_be_bytes w32 b) && nat_le (from_be_bytes w32 b) 1000000000) (from_be_bytes w32) bad bytes

-- so many sites with their numbers, ascending, after the last one, onto a vector
unfoldable pub sites_at : ℕ → ℕ → VersionVector → List ℕ → Result (VersionVector × List ℕ) Miss
sites_at zero last v bytes = Ok (v, bytes)
sites_at (suc k) last v bytes = then_at (site_at last bytes) (λ s rest. then_at (number_at rest) (λ n more. sites_at k s (by_site.insert v s n) more))

abbrev pub vector_at : List ℕ → Result (VersionVector × List ℕ) Miss
vector_at bytes = then_at (count_at bytes) (λ k rest. sites_at k 0 by_site.empty rest)

-- the letters, the version, and the site that greets
abbrev pub head_at : List ℕ → Result (ℕ × List ℕ) Miss
head_at bytes = then_at (magic_at bytes) (λ _ b. then_at (version_at b) (λ _ c. site_at 0 c))

-- its script and its version vector
abbrev pub rest_at : ℕ → List ℕ → Result (Greeting × List ℕ) Miss
rest_at site bytes = then_at (script_at bytes) (λ script b. then_at (vector_at b) (λ v rest. Ok (record { site = site; script = script; vector = v }, rest)))

abbrev pub greeting_at : List ℕ → Result (Greeting × List ℕ) Miss
greeting_at bytes = then_at (head_at bytes) rest_at

-- ---- entries

-- how many bytes the fields before the text have
abbrev pub head_size : Version → ℕ
head_size First = 16
head_size Second = 17

-- the dialect in these bytes: in the first version there is none, and it is the first one
abbrev pub dialect_in : Version → List ℕ → ℕ
dialect_in First bytes = 1
dialect_in Second bytes = slice_index bytes 14

-- the fields in these bytes, of which the last two are the length of the text
abbrev pub fields : Version → List ℕ → Head
fields v bytes = record {
  site = from_be_bytes w16 (take 2 bytes);
  seq = from_be_bytes w32 (take 4 (drop 2 bytes));
  clock = from_be_bytes w64 (take 8 (drop 6 bytes));
  dialect = dialect_in v bytes;
  length = from_be_bytes w16 (take 2 (drop (head_size v - 2) bytes));
}

abbrev pub with_text : Head → List ℕ → Entry
with_text h text = record { site = h.site; seq = h.seq; clock = h.clock; dialect = h.dialect; text = text }

-- the text, of at most 8,192 bytes, which are UTF-8
unfoldable pub text_at : Head → List ℕ → Result (Entry × List ℕ) Miss
text_at h bytes =
    if nat_lt 8192 h.length then Err bad
    else if nat_lt (length bytes) h.length then Err short
    else if is_utf8 (take h.length bytes) then Ok (with_text h (take h.length bytes), drop h.length bytes)
    else Err bad

unfoldable pub entry_at : Version → List ℕ → Result (Entry × List ℕ) Miss
entry_at v bytes = if nat_lt (length bytes) (head_size v) then Err short else text_at (fields v (take (head_size v) bytes)) (drop (head_size v) bytes)

abbrev pub some_entry : Result (Entry × List ℕ) Miss → Result (Option Entry × List ℕ) Miss
some_entry (Ok x) = Ok (Some x.0, x.1)
some_entry (Err m) = Err m

-- ---- frames

-- E and an entry, or Z, the end
unfoldable pub frame_at : Version → List ℕ → Result (Option Entry × List ℕ) Miss
frame_at v [] = Err short
frame_at v (letter ∷ rest) = if letter == 90 then Ok (None, rest) else if letter == 69 then some_entry (entry_at v rest) else Err bad

-- the entries before the end or before the first frame that misses, and what is after the end, or what misses
abbrev pub Entries : Type 0
Entries = List Entry × Result (List ℕ) Miss

abbrev pub with_item : (List ℕ → Entries) → List ℕ → Option Entry → Entries
with_item others rest None = ([], Ok rest)
with_item others rest (Some e) = (e ∷ (others rest).0, (others rest).1)

abbrev pub with_frame : (List ℕ → Entries) → Result (Option Entry × List ℕ) Miss → Entries
with_frame others (Ok x) = with_item others x.1 x.0
with_frame others (Err m) = ([], Err m)

-- The end, where no entry may follow: any other letter is refused, whatever is behind it.
abbrev pub end_at : List ℕ → Result (Unit {0} × List ℕ) Miss
end_at bytes = checked_at 1 (λ b. bytes_eq b (90 ∷ [])) (λ b. tt) bad bytes

abbrev pub last_frame : Result (Unit {0} × List ℕ) Miss → Entries
last_frame (Ok x) = ([], Ok x.1)
last_frame (Err m) = ([], Err m)

-- the most entries that a site reads of a stream or of a journal
abbrev pub most_entries : ℕ
most_entries = 100000

-- the stream of at most so many entries
unfoldable pub entries_at : Version → ℕ → List ℕ → Entries
entries_at v zero bytes = last_frame (end_at bytes)
entries_at v (suc n) bytes = with_frame (entries_at v n) (frame_at v bytes)

-- ---- what a reader tells of the bytes that it took: it took exactly a value's, or up to the first field that misses

abbrev pub ToldErr : {A : Type 0} → FrameError → Result (A × List ℕ) Miss → Option (List ℕ) → ℕ → ℕ → Type 0
ToldErr OutOfMemory read left old new = new ≡ old
ToldErr ReadFault read left old new = (read ≡ Err short) × (new ≡ counted old)
ToldErr Cut read left old new = (read ≡ Err short) × IsAtEnd left × (new ≡ old)
ToldErr Magic read left old new = (read ≡ Err magic) × (new ≡ old)
ToldErr OtherVersion read left old new = (read ≡ Err version) × (new ≡ old)
ToldErr BadFrame read left old new = (read ≡ Err bad) × (new ≡ old)

-- whatever follows
abbrev pub ReadsValue : {A : Type 0} → (List ℕ → Result (A × List ℕ) Miss) → List ℕ → Result A FrameError → Option (List ℕ) → ℕ → ℕ → Type 0
ReadsValue value_at bytes (Ok x) left old new = ((more : List ℕ) → value_at (bytes ++ more) ≡ Ok (x, more)) × (new ≡ old)
ReadsValue value_at bytes (Err e) left old new = ToldErr e (value_at bytes) left old new

abbrev pub Told : {A : Type 0} → Result A FrameError → Result (A × List ℕ) Miss → Option (List ℕ) → ℕ → ℕ → Type 0
Told (Ok x) read left old new = (read ≡ Ok (x, [])) × (new ≡ old)
Told (Err e) read left old new = ToldErr e read left old new

abbrev pub ToldEntries : Result (Unit {0}) FrameError → List Entry → Entries → Option (List ℕ) → ℕ → ℕ → Type 0
ToldEntries (Ok x) es read left old new = (read ≡ (es, Ok [])) × (new ≡ old)
ToldEntries (Err OutOfMemory) es read left old new = new ≡ old
ToldEntries (Err ReadFault) es read left old new = (read ≡ (es, Err short)) × (new ≡ counted old)
ToldEntries (Err Cut) es read left old new = (read ≡ (es, Err short)) × IsAtEnd left × (new ≡ old)
ToldEntries (Err Magic) es read left old new = (read ≡ (es, Err magic)) × (new ≡ old)
ToldEntries (Err OtherVersion) es read left old new = (read ≡ (es, Err version)) × (new ≡ old)
ToldEntries (Err BadFrame) es read left old new = (read ≡ (es, Err bad)) × (new ≡ old)
