-- Lines: how bytes are split into lines, and what a reader of lines tells.
use Rattle.std.specs.Prelude.{◌≡◌, ◌⊎◌, ℕ, ◌+◌, ◌-◌, ◌<◌, ◌≤◌, ◌==◌, Bool, true, not, if◌then◌else◌, List, [], ◌∷◌, ◌++◌, length, take, drop, Option, Some, None, option_map, unwrap_or, Result, Ok, Err, MatchBool}
use Rattle.std.specs.List.{list_all}
use Rattle.std.specs.Option.{option_map_or}
use Rattle.std.specs.Str.{bytes_eq}
use Rattle.std.specs.Io.KnownBytes.{Consumes, IsAtEnd}
use Rattle.td_io.specs.Counted.{counted}
use Rattle.td_io.specs.declared.lines.RawLine.{RawLine}
use Rattle.td_io.specs.declared.lines.LineError.{LineError}
use Rattle.td_io.specs.declared.lines.LineError.TheVariants.{OutOfMemory, ReadFault, NoReadsLeft}

-- the byte in front of the first line
abbrev pub onto : ℕ → List (List ℕ) → List (List ℕ)
onto b [] = (b ∷ []) ∷ []
onto b (l ∷ ls) = (b ∷ l) ∷ ls

-- the lines, each with its line end: each ends with its first LF, and only the last may lack one
abbrev pub raw_lines : List ℕ → List (List ℕ)
raw_lines [] = []
raw_lines (b ∷ bs) = if b == 10 then (10 ∷ []) ∷ raw_lines bs else onto b (raw_lines bs)

-- without its last byte, which is b
abbrev pub cut_end : ℕ → List ℕ → Option (List ℕ)
cut_end b xs = if bytes_eq (drop (length xs - 1) xs) (b ∷ []) then Some (take (length xs - 1) xs) else None

-- without a CR at its end
abbrev pub cut_cr : List ℕ → List ℕ
cut_cr front = unwrap_or (cut_end 13 front) front

-- a line without its line end: an LF, and a CR before it
abbrev pub content : List ℕ → List ℕ
content raw = option_map_or cut_cr (cut_end 10 raw) raw

-- no LF is among the bytes
abbrev pub is_one_line : List ℕ → Bool
is_one_line bs = list_all (λ b. not (b == 10)) bs

-- a whole line with its LF
abbrev pub IsWholeLine : List ℕ → Type 0
IsWholeLine raw = (front : List ℕ) × (is_one_line front ≡ true) × (raw ≡ front ++ 10 ∷ [])

-- bytes of one line alone
abbrev pub IsOfOneLine : List ℕ → Type 0
IsOfOneLine bytes = (is_one_line bytes ≡ true) ⊎ IsWholeLine bytes

-- what is kept of a line, of which so many bytes are allowed without its line end: all of it, or nothing of a longer
-- one
abbrev pub IsKept : ℕ → List ℕ → Option (List ℕ) → Type 0
IsKept most raw (Some bytes) = (bytes ≡ raw) × (length (content raw) ≤ most)
IsKept most raw None = most < length (content raw)

-- What a reader of a line told, who read these bytes: a whole line, or what the input's end left of one, which may be
-- nothing. Where it read none, no whole line is lost, but for want of memory.
abbrev pub TellsLine : ℕ → List ℕ → Option (List ℕ) → Result RawLine LineError → Type 0
TellsLine most raw left (Ok line) =
    IsKept most raw (option_map (λ v. v.items) line.bytes) × MatchBool line.is_last ((is_one_line raw ≡ true) × IsAtEnd left) (IsWholeLine raw)
TellsLine most raw left (Err OutOfMemory) = IsOfOneLine raw
TellsLine most raw left (Err e) = is_one_line raw ≡ true

-- the reads that gave no byte: the one that found the input's end, and the one that failed
abbrev pub byteless_reads : Result RawLine LineError → ℕ
byteless_reads (Ok line) = if line.is_last then 1 else 0
byteless_reads (Err ReadFault) = 1
byteless_reads (Err e) = 0

-- reading a line consumed the bytes that it tells of, each of which counts as a read
abbrev pub LineRead : ℕ → Option (List ℕ) → Option (List ℕ) → ℕ → Result RawLine LineError → Type 0
LineRead most old new reads r = (raw : List ℕ) × Consumes old new raw × TellsLine most raw new r × (reads ≡ length raw + byteless_reads r)

-- the cause of an error, by the reads that are left and the failures counted before and after: a read fault is a
-- counted failure
abbrev pub HasCause : ℕ → ℕ → ℕ → Result RawLine LineError → Type 0
HasCause left old new (Ok line) = new ≡ old
HasCause left old new (Err OutOfMemory) = new ≡ old
HasCause left old new (Err ReadFault) = new ≡ counted old
HasCause left old new (Err NoReadsLeft) = (new ≡ old) × (left ≡ 0)
