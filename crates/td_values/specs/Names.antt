-- Names of relvars, attributes and types.
use Rattle.std.specs.Prelude.{ℕ, Bool, false, ◌&&◌, ◌||◌, ◌==◌, nat_le, List, [], ◌∷◌, length}
use Rattle.std.specs.Char.{is_ascii_alphabetic, is_ascii_alphanumeric}
use Rattle.std.specs.List.{list_all}

-- an ASCII letter
abbrev pub is_letter : ℕ → Bool
is_letter b = is_ascii_alphabetic b

-- an ASCII letter or digit, `_` or `#`
abbrev pub goes_on_in_name : ℕ → Bool
goes_on_in_name b = is_ascii_alphanumeric b || (b == 95 || b == 35)

-- a letter, and then what may go on in a name; at most 64 bytes
abbrev pub is_name : List ℕ → Bool
is_name [] = false
is_name (b ∷ bs) = is_letter b && (list_all goes_on_in_name bs && nat_le (length (b ∷ bs)) 64)
