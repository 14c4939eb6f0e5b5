-- What stands under a line, character by character.
use Rattle.std.proofs.Common.{◌≡◌, ◌==◌, ℕ, Bool, true, false, cond, List, [], ◌∷◌, ◌++◌, map, encode_utf8, refl, ap, sym, ◌∙◌}
use Rattle.std.proofs.lemmas.List.{map-append}
use lib.Utf8
use Rattle.td_parse_errors.specs.Positions.{under}

one_of : (b : Bool) → encode_utf8 (cond b 9 32) ≡ cond b 9 32 ∷ []
unfolding lib.Utf8.encode
one_of true = refl
one_of false = refl

-- a tab and a space are one byte
one_byte : (c : ℕ) → encode_utf8 (under c) ≡ under c ∷ []
one_byte c = one_of (c == 9)

pub more : (before : List ℕ) (c : ℕ) → map under before ++ encode_utf8 (under c) ≡ map under (before ++ c ∷ [])
more before c = ap (λ bs. map under before ++ bs) (one_byte c) ∙ sym (map-append under before (c ∷ []))

pub same : (cs : List ℕ) → map (λ c. c) cs ≡ cs
same [] = refl
same (c ∷ cs) = ap (λ ds. c ∷ ds) (same cs)

pub hat : encode_utf8 94 ≡ 94 ∷ []
unfolding lib.Utf8.encode
hat = refl
