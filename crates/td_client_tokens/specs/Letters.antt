-- Of which letters secrets and names are. A text is its bytes in UTF-8.
use Rattle.std.specs.Prelude.{ℕ, ◌-◌, Bool, not, ◌&&◌, ◌||◌, ◌==◌, nat_le, List, length, slice_index}
use Rattle.std.specs.Char.{is_ascii_alphanumeric}
use Rattle.std.specs.List.{list_all}
use Rattle.std.specs.Str.{byte}

-- an ASCII letter or digit, - or _
abbrev pub is_secret_byte : ℕ → Bool
is_secret_byte b = is_ascii_alphanumeric b || b == byte "-" || b == byte "_"

-- 16 to 256 of them
abbrev pub is_secret : List ℕ → Bool
is_secret bs = nat_le 16 (length bs) && nat_le (length bs) 256 && list_all is_secret_byte bs

-- an ASCII letter or digit, a blank, . or -
abbrev pub is_name_byte : ℕ → Bool
is_name_byte b = is_ascii_alphanumeric b || b == byte " " || b == byte "." || b == byte "-"

-- 1 to 32 of them, with no blank at an end
abbrev pub is_token_name_text : List ℕ → Bool
is_token_name_text bs = nat_le 1 (length bs) && nat_le (length bs) 32 && not (slice_index bs 0 == byte " ")
    && not (slice_index bs (length bs - 1) == byte " ") && list_all is_name_byte bs
