-- How far a greeting and a stream of entries reach, known from the lengths in them.
use Rattle.std.specs.Prelude.{◌≡◌, ℕ, zero, suc, ◌+◌, ◌*◌, ◌-◌, ◌≤◌, ◌<◌, Bool, ◌||◌, List, [], ◌∷◌, ◌++◌, length, drop, codes, slice_index, nat_eq, nat_lt, ◌==◌, if◌then◌else◌}
use Rattle.std.specs.Int.{w16, w32, from_be_bytes}
use Rattle.std.specs.List.{starts_with}
use Rattle.td_stream_bounds.specs.declared.extent.Extent.{Extent}
use Rattle.td_stream_bounds.specs.declared.extent.Extent.TheVariants.{Open, Whole, Never}
use Rattle.td_stream_bounds.specs.declared.frame.Frame.{Frame}
use Rattle.td_stream_bounds.specs.declared.frame.Frame.TheVariants.{Partial, Entry, End, Invalid}
use Rattle.td_stream_bounds.specs.declared.stream.StreamScanner.{StreamScanner}
use Rattle.td_frames.specs.Reading.{most_entries}

-- an end lies within so many bytes
abbrev pub IsWithin : Extent → ℕ → Type 0
IsWithin Open len = Unit {0}
IsWithin (Whole end) len = end ≤ len
IsWithin Never len = Unit {0}

-- ---- greetings

-- the letters HTDB and the version 2
abbrev pub letters : List ℕ
letters = codes "HTDB" ++ 2 ∷ []

-- one of the two begins with the other one
abbrev pub is_compatible : List ℕ → List ℕ → Bool
is_compatible a b = starts_with nat_eq a b || starts_with nat_eq b a

-- the length of the script
unfoldable pub script_length : List ℕ → ℕ
script_length bytes = from_be_bytes w32 (slice_index bytes 7 ∷ slice_index bytes 8 ∷ slice_index bytes 9 ∷ slice_index bytes 10 ∷ [])

-- how many sites a version vector has that begins at this offset
unfoldable pub site_count : ℕ → List ℕ → ℕ
site_count at bytes = from_be_bytes w16 (slice_index bytes at ∷ slice_index bytes (at + 1) ∷ [])

-- two bytes for the number of sites, and six for each
unfoldable pub vector_extent : ℕ → List ℕ → Extent
vector_extent at bytes =
    if nat_lt (length bytes) (at + 2) then Open
    else if nat_lt (length bytes) (at + 2 + 6 * site_count at bytes) then Open
    else Whole (at + 2 + 6 * site_count at bytes)

-- eleven bytes, the script, and the version vector
unfoldable pub lengths_extent : List ℕ → Extent
lengths_extent bytes =
    if nat_lt (length bytes) 11 then Open
    else if nat_lt 65536 (script_length bytes) then Never
    else vector_extent (11 + script_length bytes) bytes

unfoldable pub greeting_extent : List ℕ → Extent
greeting_extent bytes = if is_compatible bytes letters then lengths_extent bytes else Never

-- ---- entries

-- the length of the text
unfoldable pub text_length : List ℕ → ℕ
text_length bytes = from_be_bytes w16 (slice_index bytes 16 ∷ slice_index bytes 17 ∷ [])

-- eighteen bytes and the text
unfoldable pub entry_extent : List ℕ → Frame
entry_extent bytes =
    if nat_lt (length bytes) 18 then Partial
    else if nat_lt 8192 (text_length bytes) then Invalid
    else if nat_lt (length bytes) (18 + text_length bytes) then Partial
    else Entry (18 + text_length bytes)

-- Z, or E and an entry
unfoldable pub frame_extent : List ℕ → Frame
frame_extent bytes =
    if nat_lt (length bytes) 1 then Partial
    else if slice_index bytes 0 == 90 then End
    else if slice_index bytes 0 == 69 then entry_extent bytes
    else Invalid

-- a frame is among so many bytes, of which few are a front of a frame
abbrev pub FitsIn : Frame → ℕ → Type 0
FitsIn Partial len = len < 8210
FitsIn (Entry n) len = n ≤ len
FitsIn End len = 1 ≤ len
FitsIn Invalid len = Unit {0}

-- the end, where no entry may follow
unfoldable pub last_extent : ℕ → List ℕ → Extent
last_extent at bytes =
    if nat_lt (length bytes) 1 then Open
    else if slice_index bytes 0 == 90 then Whole (at + 1)
    else Never

-- what follows a frame at this offset
abbrev pub after_frame : (ℕ → List ℕ → Extent) → ℕ → List ℕ → Frame → Extent
after_frame others at bytes Partial = Open
after_frame others at bytes (Entry n) = others (at + n) (drop n bytes)
after_frame others at bytes End = Whole (at + 1)
after_frame others at bytes Invalid = Never

-- how far a stream of at most so many entries reaches, of which these are the bytes from this offset on
unfoldable pub stream_extent : ℕ → ℕ → List ℕ → Extent
stream_extent zero at bytes = last_extent at bytes
stream_extent (suc n) at bytes = after_frame (stream_extent n) at bytes (frame_extent bytes)

-- how far the stream reaches in all these bytes
unfoldable pub scan_extent : StreamScanner → List ℕ → Extent
scan_extent s bytes = stream_extent (most_entries - s.entries) s.offset (drop s.offset bytes)

-- where a stream is open, fewer bytes than the longest frame has lie behind the offset up to which it was scanned
abbrev pub LeavesLessThanAFrame : Extent → ℕ → ℕ → Type 0
LeavesLessThanAFrame Open at len = len < at + 8210
LeavesLessThanAFrame (Whole end) at len = Unit {0}
LeavesLessThanAFrame Never at len = Unit {0}
