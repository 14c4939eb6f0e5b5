-- What a caller knows of the tokens that it is given.
use Rattle.std.proofs.Common.{◌≡◌, List, [], ◌∷◌, Some, length, map, refl, ap, subst, ◌∙◌}
use Rattle.std.specs.Prelude.{All, option_map}
use Rattle.std.proofs.lemmas.List.Elements.{All-map}
use Rattle.td_tokens.specs.declared.token.Token.{Token}
use Rattle.td_tokens.specs.Lex.{Text, Spanned}
use Rattle.td_tokens.specs.Lexer.{reading, lexemes}
use Rattle.td_tokens.specs.View.{lexeme_of, spanned_of}
use Rattle.td_tokens.specs.Laws.{AreSpans, IsWellFormed}
use Rattle.td_tokens.proofs.OneReading.{found}
use Rattle.td_tokens.proofs.Readings.{tokens_are_slices, names_are_names}

lexemes_of_spanned : (ts : List Token) → map (λ (t : Spanned). t.lexeme) (map spanned_of ts) ≡ map lexeme_of ts
lexemes_of_spanned [] = refl
lexemes_of_spanned (t ∷ ts) = ap (λ ls. lexeme_of t ∷ ls) (lexemes_of_spanned ts)

-- the lexemes of the text are those of the tokens
pub lexemes_are : (bs : Text) (ts : List Token) → reading bs ≡ Some (map spanned_of ts) → lexemes bs ≡ Some (map lexeme_of ts)
lexemes_are bs ts h = ap (option_map (map (λ (t : Spanned). t.lexeme))) h ∙ ap Some (lexemes_of_spanned ts)

-- the tokens lie in the text, one behind the other
pub spans_are : (bs : Text) (ts : List Token) → reading bs ≡ Some (map spanned_of ts) → AreSpans 0 (map spanned_of ts) (length bs)
spans_are bs ts h = tokens_are_slices bs (map spanned_of ts) (found bs (map spanned_of ts) h)

-- their names are names and no keywords, and their integers and texts are in shape
pub lexemes_well_formed : (bs : Text) (ts : List Token) → reading bs ≡ Some (map spanned_of ts) → All IsWellFormed (map lexeme_of ts)
lexemes_well_formed bs ts h =
    subst (All IsWellFormed) (lexemes_of_spanned ts) (All-map IsWellFormed (λ (t : Spanned). t.lexeme) (map spanned_of ts) (names_are_names bs (map spanned_of ts) (found bs (map spanned_of ts) h)))
