-- Laws over the definitions alone.
use Rattle.std.specs.Prelude.{◌≡◌, ◌≢◌, ℕ, true, List, [], ◌∷◌, ◌++◌}
use Rattle.td_io.specs.Lines.{raw_lines, content, is_one_line, IsWholeLine}

-- a whole line is the first line of all bytes that it begins
abbrev pub WholeLineIsFirst : Type 0
WholeLineIsFirst = (raw more : List ℕ) → IsWholeLine raw → raw_lines (raw ++ more) ≡ raw ∷ raw_lines more

-- bytes without an LF, if there are any, are one line
abbrev pub RestIsLast : Type 0
RestIsLast = (raw : List ℕ) → is_one_line raw ≡ true → raw ≢ [] → raw_lines raw ≡ raw ∷ []

-- a line end is an LF, and a CR before it; what has no LF at its end has none
abbrev pub CrLfIsCut : Type 0
CrLfIsCut = (front : List ℕ) → content (front ++ 13 ∷ 10 ∷ []) ≡ front

abbrev pub LfIsCut : Type 0
LfIsCut = (front : List ℕ) → ((before : List ℕ) → front ≢ before ++ 13 ∷ []) → content (front ++ 10 ∷ []) ≡ front

abbrev pub NothingElseIsCut : Type 0
NothingElseIsCut = (raw : List ℕ) → ((front : List ℕ) → raw ≢ front ++ 10 ∷ []) → content raw ≡ raw
