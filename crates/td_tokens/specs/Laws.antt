-- What holds of every text, whatever the code does.
use Rattle.std.specs.Prelude.{◌≡◌, ◌≤◌, ◌<◌, ℕ, Bool, true, not, ◌||◌, ◌==◌, List, [], ◌∷◌, length, Some, None, All, ◌↔◌}
use Rattle.std.specs.List.{list_all}
use Rattle.td_values.specs.Names.{is_name}
use Rattle.td_tokens.specs.Lex.{Text, Lexeme, word, name, int, text, Spanned, keyword_of, largest_int, IsReading}
use Rattle.td_tokens.specs.Lexer.{reading}

-- a text has at most one reading, and `reading` finds it
pub record HasOneReading : Type 0 where
  pub at_most_one : (bs : Text) (ts us : List Spanned) → IsReading bs ts → IsReading bs us → ts ≡ us
  pub found : (bs : Text) (ts : List Spanned) → (reading bs ≡ Some ts) ↔ (IsReading bs ts)
  pub none : (bs : Text) → (reading bs ≡ None) ↔ ((ts : List Spanned) → ¬ (IsReading bs ts))

-- the tokens are not empty, lie one behind the other from `from` on, and end by `end`
abbrev pub AreSpans : ℕ → List Spanned → ℕ → Type 0
AreSpans from [] end = from ≤ end
AreSpans from (t ∷ ts) end = (from ≤ t.start) × (t.start < t.end) × AreSpans t.end ts end

abbrev pub TokensAreSlices : Type 0
TokensAreSlices = (bs : Text) (ts : List Spanned) → IsReading bs ts → AreSpans 0 ts (length bs)

-- what may stand among the characters of a text literal
abbrev pub is_in_text : ℕ → Bool
is_in_text b = not (b == 0 || b == 10 || b == 13)

-- a name has a name's shape and is no keyword, an integer is in range, and a text has no NUL, line feed or carriage
-- return
abbrev pub IsWellFormed : Lexeme → Type 0
IsWellFormed (word v) = Unit {0}
IsWellFormed (name n) = (is_name n ≡ true) × (keyword_of n ≡ None)
IsWellFormed (int n) = n ≤ largest_int
IsWellFormed (text cs) = list_all is_in_text cs ≡ true

abbrev pub NamesAreNames : Type 0
NamesAreNames = (bs : Text) (ts : List Spanned) → IsReading bs ts → All (λ t. IsWellFormed t.lexeme) ts
