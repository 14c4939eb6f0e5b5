-- The one reading of a text, as a function.
use Rattle.std.specs.Prelude.{ℕ, zero, suc, ◌+◌, ◌-◌, Bool, true, false, not, ◌&&◌, ◌==◌, nat_le, List, [], ◌∷◌, length, take, drop, map, codes, Option, Some, None, if◌then◌else◌, option_map, option_and_then}
use Rattle.std.specs.Char.{is_ascii_digit}
use Rattle.std.specs.List.{list_all}
use Rattle.std.specs.Str.{byte}
use Rattle.td_values.specs.Names.{is_letter, goes_on_in_name}
use Rattle.td_tokens.specs.declared.token.Word.{Word}
use Rattle.td_tokens.specs.declared.token.TokenKind.{TokenKind}
use Rattle.td_tokens.specs.declared.token.TokenKind.TheVariants as kind
use Rattle.td_tokens.specs.declared.piece.Piece.{Piece}
use Rattle.td_tokens.specs.Words.{Spelling}
use Rattle.td_tokens.specs.Lex.{Text, Lexeme, word, name, int, text, Spanned, first, begins_with, is_blank, is_plain, run, keyword_of, value, largest_int, symbol_at, open_after, most_open}

-- a literal without its opening quote
abbrev pub after_opening : Text → Text
after_opening [] = []
after_opening (b ∷ bs) = if b == byte "'" then bs else b ∷ bs

-- the characters of what follows the opening quote: of two quotes in a row the second, and no other quote
abbrev pub undoubled : Bool → Text → Text
undoubled after_quote [] = []
undoubled after_quote (b ∷ bs) =
    if b == byte "'" && not after_quote then undoubled true bs else b ∷ undoubled false bs

-- what a token of this kind is, which takes these bytes
abbrev pub lexeme : TokenKind → Text → Lexeme
lexeme (kind.Word v) bs = word v
lexeme kind.Name bs = name bs
lexeme (kind.Int n) bs = int n
lexeme kind.Text bs = text (undoubled false (after_opening bs))

-- the place after the `*/` of a comment
abbrev pub comment_end : Bool → ℕ → Text → Option ℕ
comment_end after_star at [] = None
comment_end after_star at (b ∷ bs) =
    if after_star && b == byte "/" then Some (at + 1) else comment_end (b == byte "*") (at + 1) bs

-- the place after the closing quote of a literal
abbrev pub text_end : Bool → ℕ → Text → Option ℕ
text_end after_quote at [] = if after_quote then Some at else None
text_end after_quote at (b ∷ bs) =
    if b == byte "'" then text_end (not after_quote) (at + 1) bs
    else (if after_quote then Some at else (if is_plain b then text_end false (at + 1) bs else None))

unfoldable pub int_kind : Text → Option TokenKind
int_kind bs = if list_all is_ascii_digit bs && nat_le (value bs) largest_int then Some (kind.Int (value bs)) else None

abbrev pub word_or_name : Option Word → Text → Option TokenKind
word_or_name (Some v) bs = Some (kind.Word v)
word_or_name None bs = if nat_le (length bs) 64 then Some kind.Name else None

unfoldable pub name_kind : Text → Option TokenKind
name_kind bs = word_or_name (keyword_of bs) bs

-- what a whole run is
unfoldable pub run_kind : Text → Option TokenKind
run_kind bs = if is_letter (first bs) then name_kind bs else int_kind bs

abbrev pub skipping : Option ℕ → Option Piece
skipping = option_map (λ n. record { kind = None; length = n })

abbrev pub taking : Option ℕ → Option Piece
taking = option_map (λ n. record { kind = Some kind.Text; length = n })

abbrev pub run_piece : Text → Option Piece
run_piece bs = option_map (λ k. record { kind = Some k; length = length bs }) (run_kind bs)

abbrev pub sign_piece : Option Spelling → Option Piece
sign_piece = option_map (λ s. record { kind = Some (kind.Word s.1); length = length s.0 })

abbrev pub symbol_piece : Text → Option Piece
symbol_piece bs = sign_piece (symbol_at bs)

-- what stands at the front, and its length
unfoldable pub front : Text → Option Piece
front bs =
    let b = first bs in
    if is_blank b then skipping (Some 1)
    else (if goes_on_in_name b then run_piece (run bs)
    else (if b == byte "'" then taking (text_end false 1 (drop 1 bs))
    else (if begins_with (codes "/*") bs then skipping (comment_end false 2 (drop 2 bs))
    else symbol_piece bs)))

abbrev pub Lexed : Type 0
Lexed = Option (List Spanned)

-- the token first, where not too many brackets are then open
abbrev pub token_then : (ℕ → Lexed) → ℕ → Spanned → Lexed
token_then more depth t =
    if nat_le (open_after depth t.lexeme) most_open then option_map (λ ts. t ∷ ts) (more (open_after depth t.lexeme)) else None

-- a token of this kind and length first, or white space
abbrev pub piece_then : (ℕ → Lexed) → ℕ → ℕ → Text → Option TokenKind → ℕ → Lexed
piece_then more depth at bs None n = more depth
piece_then more depth at bs (Some k) n = token_then more depth (record { lexeme = lexeme k (take n bs); start = at; end = at + n })

-- The tokens of a text whose first byte has the number `at`, where so many brackets are open before it
-- and its first `left` bytes belong to the piece before.
unfoldable pub lexed : ℕ → ℕ → ℕ → Text → Lexed
lexed left depth at [] = Some []
lexed (suc left) depth at (b ∷ bs) = lexed left depth (at + 1) bs
lexed zero depth at (b ∷ bs) =
    option_and_then (λ (p : Piece). piece_then (λ later. lexed (p.length - 1) later (at + 1) bs) depth at (b ∷ bs) p.kind p.length) (front (b ∷ bs))

-- the tokens of a text, where it has a reading
abbrev pub reading : Text → Option (List Spanned)
reading bs = lexed 0 0 0 bs

-- the tokens of a text without their places, where it has a reading
abbrev pub lexemes : Text → Option (List Lexeme)
lexemes bs = option_map (map (λ (t : Spanned). t.lexeme)) (reading bs)

-- how many brackets are open behind a piece
abbrev pub open_behind : ℕ → Option TokenKind → ℕ
open_behind depth None = depth
open_behind depth (Some k) = open_after depth (lexeme k [])

abbrev pub where_shallow : ℕ → ℕ → Option (ℕ × ℕ)
where_shallow depth n = if nat_le depth most_open then Some (n, depth) else None

-- the length of the piece at the front and how many brackets are open behind it, where these are not too many
unfoldable pub next_piece : ℕ → Text → Option (ℕ × ℕ)
next_piece depth bs = option_and_then (λ (p : Piece). where_shallow (open_behind depth p.kind) p.length) (front bs)
