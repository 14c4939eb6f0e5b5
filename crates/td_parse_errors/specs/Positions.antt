-- Lines and columns.
use Rattle.std.specs.Prelude.{ℕ, ◌+◌, ◌-◌, Bool, ◌&&◌, ◌==◌, nat_le, if◌then◌else◌, List, ◌++◌, take, map, fold, codes}
use Rattle.std.specs.Str.{chars}
use Rattle.td_parse_errors.specs.declared.position.Position.{Position}

-- the bytes of a character but its first
abbrev pub goes_on : ℕ → Bool
goes_on b = nat_le 128 b && nat_le b 191

-- the position behind a byte that stands at a position
abbrev pub behind : Position → ℕ → Position
behind p b =
    if b == 10 then record { line = p.line + 1; column = 1 }
    else (if goes_on b then p else record { line = p.line; column = p.column + 1 })

-- the position behind these bytes
abbrev pub position : List ℕ → Position
position = fold behind (record { line = 1; column = 1 })

-- a tab under a tab, and else a space
abbrev pub under : ℕ → ℕ
under c = if c == 9 then 9 else 32

-- a caret under the character at a column
abbrev pub caret : List ℕ → ℕ → List ℕ
caret line column = map under (take (column - 1) (chars line)) ++ codes "^"
