-- The tokens of a text begin where it may be cut.
use Rattle.std.proofs.Common.{◌≡◌, ◌<◌, ℕ, zero, suc, List, [], ◌∷◌, Some, length, get_or, map, refl, arith, IsUtf8}
use Rattle.std.specs.List.{AllByRecursion}
use Rattle.std.specs.Str.{IsCharBoundary}
use Rattle.td_tokens.specs.declared.token.Token.{Token}
use Rattle.td_tokens.specs.Lex.{Text, Spanned}
use Rattle.td_tokens.specs.Lexer.{reading}
use Rattle.td_tokens.specs.View.{spanned_of}
use Rattle.td_tokens.proofs.OneReading.{one_reading}
use Rattle.td_tokens.proofs.Starts.{IsLeft, starts_stand}

start_at : (text : Text) (ts : List Token) (i : ℕ) (d : Token) → AllByRecursion (λ (s : Spanned). IsCharBoundary text s.start) (map spanned_of ts) → i < length ts → IsCharBoundary text (get_or ts i d).start
start_at text [] i d h within = absurd (omega arith)
start_at text (t ∷ ts) zero d h within = h.0
start_at text (t ∷ ts) (suc i) d h within = start_at text ts i d h.1 (omega arith)

pub token_stands : (text : Text) (ts : List Token) (i : ℕ) (d : Token) → IsUtf8 text → reading text ≡ Some (map spanned_of ts) → i < length ts → IsCharBoundary text (get_or ts i d).start
token_stands text ts i d utf8 is within =
    let lexed = ((one_reading.found text (map spanned_of ts)).0 is).0 in
    let whole : IsLeft text 0 text = record { within = omega arith; rest_is = refl; utf8 = utf8 } in
    start_at text ts i d (starts_stand text lexed whole) within
