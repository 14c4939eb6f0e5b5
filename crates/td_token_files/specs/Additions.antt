-- What is added to a text of tokens.
use Rattle.std.specs.Prelude.{◌≡◌, ℕ, ◌-◌, Bool, ◌||◌, ◌==◌, if◌then◌else◌, List, [], codes, length, slice_index, Ok}
use Rattle.td_client_tokens.specs.Texts.{tokens_of}
use Rattle.td_client_tokens.specs.Tokens.{Entry}

-- the text is empty, or its last line is ended by a line feed
abbrev pub is_ended : List ℕ → Bool
is_ended bs = length bs == 0 || slice_index bs (length bs - 1) == 10

-- what is missing before another line
abbrev pub gap : List ℕ → List ℕ
gap bs = if is_ended bs then [] else codes "\n"

-- the text has tokens, and no line of it is wrong
abbrev pub HasTokens : List ℕ → Type 0
HasTokens bs = (es : List Entry) × (tokens_of bs ≡ Ok es)
