-- Which tokens a text has.
use Rattle.std.specs.Prelude.{ℕ, ◌+◌, ◌==◌, Bool, true, false, ◌||◌, if◌then◌else◌, List, [], ◌∷◌, ◌++◌, length, slice_index, Option, Some, None, Result, Ok, Err}
use Rattle.std.specs.List.{list_any}
use Rattle.std.specs.Str.{byte, bytes_eq, trim}
use Rattle.std.specs.Str.Lines.{lines}
use Rattle.td_client_tokens.specs.declared.token.TokenFault.{TokenFault}
use Rattle.td_client_tokens.specs.declared.token.TokenFault.TheVariants as fault
use Rattle.td_client_tokens.specs.declared.text.BadTokens.{BadTokens}
use Rattle.td_client_tokens.specs.declared.text.ReadTokensError.{ReadTokensError}
use Rattle.td_client_tokens.specs.declared.text.ReadTokensError.TheVariants as error
use Rattle.td_client_tokens.specs.Lines.{line_entry}
use Rattle.td_client_tokens.specs.Tokens.{Entry}

-- an empty line, or one that begins with #
abbrev pub is_passed_over : List ℕ → Bool
is_passed_over bs = length bs == 0 || slice_index bs 0 == byte "#"

-- whether two names are one: two tokens without a name have one name, too
abbrev pub is_same_name : Option (List ℕ) → Option (List ℕ) → Bool
is_same_name None None = true
is_same_name (Some a) (Some b) = bytes_eq a b
is_same_name None (Some b) = false
is_same_name (Some a) None = false

-- the fault of a name that is there twice
abbrev pub twice : Option (List ℕ) → TokenFault
twice None = fault.BareTwice
twice (Some n) = fault.NameTwice

-- the tokens after one more, which has neither the secret nor the name of an earlier one
abbrev pub with_entry : List Entry → Result Entry TokenFault → Result (List Entry) TokenFault
with_entry held (Err f) = Err f
with_entry held (Ok e) =
    if list_any (λ (o : Entry). bytes_eq o.secret e.secret) held then Err fault.SecretTwice
    else if list_any (λ (o : Entry). is_same_name o.name e.name) held then Err (twice e.name)
    else Ok (held ++ e ∷ [])

-- the tokens after one more line
abbrev pub with_line : List Entry → List ℕ → Result (List Entry) TokenFault
with_line held bs = if is_passed_over bs then Ok held else with_entry held (line_entry bs)

-- what follows a line of this number: the first line that is wrong is reported
abbrev pub then_more : ℕ → (List Entry → Result (List Entry) ReadTokensError) → Result (List Entry) TokenFault → Result (List Entry) ReadTokensError
then_more n more (Err f) = Err (error.Line (record { line = n; fault = f }))
then_more n more (Ok held) = more held

-- the tokens after more lines, the first of which has this number: there is one at least
abbrev pub tokens_after : List (List ℕ) → ℕ → List Entry → Result (List Entry) ReadTokensError
tokens_after [] n held = if length held == 0 then Err error.NoTokens else Ok held
tokens_after (l ∷ ls) n held = then_more n (tokens_after ls (n + 1)) (with_line held (trim l))

-- the tokens of a text
abbrev pub tokens_of : List ℕ → Result (List Entry) ReadTokensError
tokens_of bs = tokens_after (lines bs) 1 []
