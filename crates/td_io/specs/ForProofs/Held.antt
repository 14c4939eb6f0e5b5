-- What is held of a line while it is read.
use Rattle.std.specs.Prelude.{ℕ, ◌+◌, nat_le, if◌then◌else◌, List, ◌++◌, length, Option, Some, None}
use Rattle.td_io.specs.Lines.{content}

-- the bytes, or none where they are more than so many and a line end
abbrev pub begun : ℕ → List ℕ → Option (List ℕ)
begun most raw = if nat_le (length raw) (most + 2) then Some raw else None

-- the bytes and these behind them, or none where they would be too many
abbrev pub with_bytes : ℕ → List ℕ → List ℕ → Option (List ℕ)
with_bytes most more bs = if nat_le (length bs + length more) (most + 2) then Some (bs ++ more) else None

-- the bytes of a line, or none where they are more than so many without its line end
abbrev pub kept : ℕ → List ℕ → Option (List ℕ)
kept most raw = if nat_le (length (content raw)) most then Some raw else None
