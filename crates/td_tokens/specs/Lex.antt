-- The tokens of a text, as a relation: what may stand at the front of a text, one clause for each form, and what
-- follows. A text is its bytes in UTF-8. A run is taken as far as it goes, and only then judged: what is too long or
-- too large has no reading, and is never cut in two.
use Rattle.std.specs.Prelude.{◌≡◌, ◌≤◌, ℕ, suc, ◌+◌, ◌-◌, ◌*◌, Bool, true, false, not, ◌||◌, ◌==◌, nat_eq, List, [], ◌∷◌, length, slice_index, take, drop, fold, codes, Option, Some, None, take_while, find, option_map}
use Rattle.std.specs.Char.{is_ascii_digit}
use Rattle.std.specs.List.{list_all, starts_with}
use Rattle.std.specs.Str.{byte, str_eq_ignore_ascii_case}
use Rattle.td_values.specs.Names.{is_letter, goes_on_in_name}
use Rattle.td_tokens.specs.declared.token.Word.{Word}
use Rattle.td_tokens.specs.declared.token.Word.TheVariants as w
use Rattle.td_tokens.specs.Words.{Spelling, keywords, symbols}

abbrev pub Text : Type 0
Text = List ℕ

-- what a token is: a keyword or a symbol, a name, an integer's value, or the characters of a text literal
pub data Lexeme : Type 0 where
  word : Word → Lexeme
  name : Text → Lexeme
  int : ℕ → Lexeme
  text : Text → Lexeme

-- a token with its place: the bytes from `start` up to `end`
pub record Spanned : Type 0 where
  pub lexeme : Lexeme
  pub start : ℕ
  pub end : ℕ

-- the first byte, or 0 where there is none
abbrev pub first : Text → ℕ
first bs = slice_index bs 0

abbrev pub begins_with : Text → Text → Bool
begins_with front bs = starts_with nat_eq bs front

-- ---- white space

-- space, tab, line feed, carriage return
abbrev pub is_blank : ℕ → Bool
is_blank b = b == 32 || b == 9 || b == 10 || b == 13

-- the inside of a comment ends with the first `*/`, so many bytes on
pub data EndsComment : Text → ℕ → Type 0 where
  closing : {bs : Text} → EndsComment (byte "*" ∷ byte "/" ∷ bs) 2
  inside : {b n : ℕ} {bs : Text} → begins_with (codes "*/") (b ∷ bs) ≡ false → EndsComment bs n → EndsComment (b ∷ bs) (suc n)

-- white space of so many bytes is at the front: a blank, or a comment
pub data IsSkipped : Text → ℕ → Type 0 where
  a_blank : {bs : Text} → is_blank (first bs) ≡ true → IsSkipped bs 1
  a_comment : {n : ℕ} {bs : Text} → EndsComment bs n → IsSkipped (byte "/" ∷ byte "*" ∷ bs) (suc (suc n))

-- ---- runs

-- letters, digits, `_` and `#`, as many as stand at the front
abbrev pub run : Text → Text
run = take_while goes_on_in_name

-- the keyword of these letters, in either case
unfoldable pub keyword_of : Text → Option Word
keyword_of letters = option_map (λ (k : Spelling). k.1) (find (λ (k : Spelling). str_eq_ignore_ascii_case k.0 letters) keywords)

-- the number that decimal digits write
abbrev pub value : Text → ℕ
value = fold (λ n b. 10 * n + (b - byte "0")) 0

abbrev pub largest_int : ℕ
largest_int = 9223372036854775807

-- ---- text literals

-- these characters may stand inside: any but a quote, NUL, line feed and carriage return
abbrev pub is_plain : ℕ → Bool
is_plain b = not (b == byte "'" || b == 0 || b == 10 || b == 13)

-- After an opening quote come the characters cs, a quote among them doubled, and the closing quote: n bytes.
pub data IsQuoted : Text → Text → ℕ → Type 0 where
  closing_quote : {bs : Text} → begins_with (codes "'") bs ≡ false → IsQuoted (byte "'" ∷ bs) [] 1
  doubled_quote : {n : ℕ} {bs cs : Text} → IsQuoted bs cs n → IsQuoted (byte "'" ∷ byte "'" ∷ bs) (byte "'" ∷ cs) (suc (suc n))
  character : {b n : ℕ} {bs cs : Text} → is_plain b ≡ true → IsQuoted bs cs n → IsQuoted (b ∷ bs) (b ∷ cs) (suc n)

-- ---- tokens

-- the longest symbol at the front
unfoldable pub symbol_at : Text → Option Spelling
symbol_at bs = find (λ (s : Spelling). begins_with s.0 bs) symbols

-- A token of so many bytes is at the front.
pub data IsFront : Text → Lexeme → ℕ → Type 0 where
  -- a run that begins with a letter is a keyword or a name
  a_keyword : {bs : Text} {v : Word} → is_letter (first bs) ≡ true → keyword_of (run bs) ≡ Some v → IsFront bs (word v) (length (run bs))
  a_name : {bs : Text} → is_letter (first bs) ≡ true → keyword_of (run bs) ≡ None → length (run bs) ≤ 64 → IsFront bs (name (run bs)) (length (run bs))
  -- digits alone: no letter, `_` or `#` follows them directly
  an_int : {bs : Text} → is_ascii_digit (first bs) ≡ true → list_all is_ascii_digit (run bs) ≡ true → value (run bs) ≤ largest_int → IsFront bs (int (value (run bs))) (length (run bs))
  a_text : {n : ℕ} {bs cs : Text} → IsQuoted bs cs n → IsFront (byte "'" ∷ bs) (text cs) (suc n)
  -- `/*` begins a comment and is no symbol
  a_symbol : {bs : Text} {s : Spelling} → begins_with (codes "/*") bs ≡ false → symbol_at bs ≡ Some s → IsFront bs (word s.1) (length s.0)

-- The text, whose first byte has the number `at`, is read as these tokens.
pub data IsLexed : ℕ → Text → List Spanned → Type 0 where
  ended : {at : ℕ} → IsLexed at [] []
  skipped : {at n : ℕ} {bs : Text} {ts : List Spanned} → IsSkipped bs n → IsLexed (at + n) (drop n bs) ts → IsLexed at bs ts
  token : {at n : ℕ} {bs : Text} {l : Lexeme} {ts : List Spanned} → IsFront bs l n → IsLexed (at + n) (drop n bs) ts → IsLexed at bs (record { lexeme = l; start = at; end = at + n } ∷ ts)

-- ---- brackets

abbrev pub most_open : ℕ
most_open = 64

abbrev pub open_after_word : ℕ → Word → ℕ
open_after_word depth w.OpenParenthesis = suc depth
open_after_word depth w.OpenBrace = suc depth
open_after_word depth w.CloseParenthesis = depth - 1
open_after_word depth w.CloseBrace = depth - 1
open_after_word depth _ = depth

-- how many of `(` and `{` are open after a token; a stray closing bracket leaves none open
abbrev pub open_after : ℕ → Lexeme → ℕ
open_after depth (word v) = open_after_word depth v
open_after depth (name n) = depth
open_after depth (int n) = depth
open_after depth (text cs) = depth

-- at no place of the text are too many open
abbrev pub IsShallow : ℕ → List Spanned → Type 0
IsShallow depth ts = (n : ℕ) → fold (λ before t. open_after before t.lexeme) depth (take n ts) ≤ most_open

-- A text is read as these tokens.
abbrev pub IsReading : Text → List Spanned → Type 0
IsReading bs ts = IsLexed 0 bs ts × IsShallow 0 ts
