-- The characters of a text literal, character by character.
use Rattle.std.proofs.Common.{◌≡◌, ◌≢◌, ◌<◌, ◌==◌, ℕ, suc, Bool, true, false, [], ◌∷◌, ◌++◌, Option, Some, None, Bor, length, get_or, refl, ap, sym, ◌∙◌, subst, arith, encode_utf8, ◌⊎◌, inl, inr, append_assoc}
use Rattle.std.proofs.lemmas.List.{append-nil}
use Rattle.std.specs.Prelude.{MatchOption, unwrap_or}
use Rattle.std.proofs.lemmas.Bool.Decides.{nat_tests}
use Rattle.std.proofs.lemmas.Str.{inside_one, length-encode, len_utf8_bounds, encode_ascii}
use Rattle.td_tokens.specs.Lex.{Text}
use Rattle.td_tokens.specs.Lexer.{undoubled, after_opening}

-- no byte is a quote
abbrev HasNoQuote : Text → Type 0
HasNoQuote xs = (k : ℕ) → k < length xs → get_or xs k 0 ≢ 39

other : (b : ℕ) → b ≢ 39 → (b == 39) ≡ false
other b h = grind (arith, nat_tests)

bytes_kept : (xs bs : Text) (after_quote : Bool) → 0 < length xs → HasNoQuote xs → undoubled after_quote (xs ++ bs) ≡ xs ++ undoubled false bs
bytes_kept [] bs after_quote nonempty none = absurd (omega arith)
bytes_kept (x ∷ []) bs after_quote nonempty none = rw (other x (none 0 (omega arith))) refl
bytes_kept (x ∷ y ∷ xs) bs after_quote nonempty none =
    rw (other x (none 0 (omega arith))) (ap (λ ys. x ∷ ys) (bytes_kept (y ∷ xs) bs false (omega arith) (λ k l. none (suc k) (omega arith))))

encode_kept : (c : ℕ) (bs : Text) (after_quote : Bool) → c ≢ 39 → undoubled after_quote (encode_utf8 c ++ bs) ≡ encode_utf8 c ++ undoubled false bs
encode_kept c bs after_quote differs =
    bytes_kept (encode_utf8 c) bs after_quote (omega (arith, length-encode c, len_utf8_bounds c))
    (λ k l is. let small : get_or (encode_utf8 c) k 0 < 128 = omega arith in differs (inside_one c [] (encode_utf8 c) k (sym (append-nil (encode_utf8 c))) l small ∙ is))

-- a character that is written: one that is no quote, or the second of two
abbrev pub IsKept : ℕ → Bool → Type 0
IsKept c after_quote = ((c ≡ 39) × (after_quote ≡ true)) ⊎ (c ≢ 39)

kept : (c : ℕ) (bs : Text) (after_quote : Bool) → IsKept c after_quote → undoubled after_quote (encode_utf8 c ++ bs) ≡ encode_utf8 c ++ undoubled false bs
kept c bs after_quote (inl (is, after)) = subst (λ x. undoubled after_quote (encode_utf8 x ++ bs) ≡ encode_utf8 x ++ undoubled false bs) (sym is) (let e : encode_utf8 39 ≡ 39 ∷ [] = encode_ascii 39 (omega arith) in rw (after, e) refl)
kept c bs after_quote (inr differs) = encode_kept c bs after_quote differs

pub written : (old new rest after all : Text) (c : ℕ) (after_quote : Bool) → new ≡ old ++ encode_utf8 c → rest ≡ encode_utf8 c ++ after → IsKept c after_quote → old ++ undoubled after_quote rest ≡ all → new ++ undoubled false after ≡ all
written old new rest after all c after_quote pushed is keep so_far =
    ap (λ xs. xs ++ undoubled false after) pushed ∙ append_assoc old (encode_utf8 c) (undoubled false after)
    ∙ ap (λ xs. old ++ xs) (sym (kept c after after_quote keep) ∙ ap (undoubled after_quote) (sym is)) ∙ so_far

-- what follows the opening quote
pub opened : (bs : Text) (r : Option (Bor Text)) (d : Bor Text) → d.now ≡ bs → MatchOption r ((rest : Text) → bs ≢ 39 ∷ rest) (λ x. bs ≡ 39 ∷ x.now) → (unwrap_or r d).now ≡ after_opening bs
opened bs (Some x) d is h = sym (ap after_opening h)
opened [] None d is h = is
opened (b ∷ bs) None d is h = is ∙ sym (rw (other b (λ e. h bs (ap (λ x. x ∷ bs) e))) refl)
