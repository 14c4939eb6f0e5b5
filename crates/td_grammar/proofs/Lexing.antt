-- The lexemes of a text's tokens, among which names are names, and of its reading.
use Rattle.std.proofs.Common.{◌≡◌, ℕ, List, [], ◌∷◌, true, Option, Some, None, map, refl, ap, ◌∙◌, option_map}
use Rattle.std.proofs.lemmas.Bool.{le-leb}
use Rattle.std.specs.List.{list_all, AllByRecursion}
use Rattle.std.proofs.lemmas.List.Elements.{recursion_from_All}
use Rattle.td_tokens.specs.declared.token.Token.{Token}
use Rattle.td_tokens.specs.Lex.{Text, Lexeme, word, name, int, text, Spanned, IsReading, largest_int}
use Rattle.td_tokens.specs.Laws.{IsWellFormed}
use Rattle.td_tokens.specs.Lexer.{reading, lexemes}
use Rattle.td_tokens.specs.View.{lexeme_of, spanned_of}
use Rattle.td_tokens.proofs.Readings.{names_are_names}
use Rattle.td_tokens.proofs.OneReading.{one_reading}
use Rattle.td_grammar.specs.Grammar.{Tokens, without_places}
use Rattle.td_grammar.specs.ForProofs.Readings.{fits}
use Rattle.td_grammar.proofs.Places.{none_some}

pub lexemes_spanned : (ts : List Token) → map (λ (t : Spanned). t.lexeme) (map spanned_of ts) ≡ map lexeme_of ts
lexemes_spanned [] = refl
lexemes_spanned (t ∷ ts) = ap (λ (ls : List Lexeme). lexeme_of t ∷ ls) (lexemes_spanned ts)

pub read_lexemes : (bs : List ℕ) (ts : List Token) → reading bs ≡ Some (map spanned_of ts) → lexemes bs ≡ Some (map lexeme_of ts)
read_lexemes bs ts e = ap (option_map (map (λ (t : Spanned). t.lexeme))) e ∙ ap Some (lexemes_spanned ts)

pub no_lexemes : (bs : List ℕ) → reading bs ≡ None → lexemes bs ≡ None
no_lexemes bs e = ap (option_map (map (λ (t : Spanned). t.lexeme))) e

well_formed_fits : (l : Lexeme) → IsWellFormed l → fits l ≡ true
well_formed_fits (word v) h = refl
well_formed_fits (name n) h = h.0
well_formed_fits (int n) h = le-leb n largest_int h
well_formed_fits (text s) h = refl

all_fit : (ts : List Token) → AllByRecursion (λ (t : Spanned). IsWellFormed t.lexeme) (map spanned_of ts) → list_all fits (map lexeme_of ts) ≡ true
all_fit [] h = refl
all_fit (t ∷ ts) h = rw (well_formed_fits (lexeme_of t) h.0, all_fit ts h.1) refl

pub read_names : (bs : List ℕ) (ts : List Token) → reading bs ≡ Some (map spanned_of ts) → list_all fits (map lexeme_of ts) ≡ true
read_names bs ts e = all_fit ts (recursion_from_All _ _ (names_are_names bs (map spanned_of ts) ((one_reading.found bs (map spanned_of ts)).0 e)))

-- ---- a reading and the function that finds it

pub reading_lexed : (bs : Text) (spans : List Spanned) → IsReading bs spans → lexemes bs ≡ Some (without_places spans)
reading_lexed bs spans h = ap (option_map without_places) ((one_reading.found bs spans).1 h)

same_tokens : (ts us : Tokens) → Some ts ≡ Some us → ts ≡ us
same_tokens ts us h = cc

spans_found : (o : Option (List Spanned)) (ts : Tokens) → option_map without_places o ≡ Some ts → (spans : List Spanned) × (o ≡ Some spans) × (without_places spans ≡ ts)
spans_found None ts h = absurd (none_some h)
spans_found (Some spans) ts h = (spans, refl, same_tokens (without_places spans) ts h)

pub lexed_reading : (bs : Text) (ts : Tokens) → lexemes bs ≡ Some ts → (spans : List Spanned) × IsReading bs spans × (without_places spans ≡ ts)
lexed_reading bs ts h =
    let s = spans_found (reading bs) ts h in
    (s.0, (one_reading.found bs s.0).0 s.1, s.2)
