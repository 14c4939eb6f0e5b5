-- Single tokens at the front of a text, with what stands behind them.
use Rattle.std.proofs.Common.{◌≡◌, ◌≢◌, ◌≤◌, ◌<◌, ◌+◌, ◌-◌, ◌*◌, ◌/◌, ◌%◌, ◌^◌, ◌==◌, ℕ, suc, Bool, true, false, ◌&&◌, if◌then◌else◌, nat_le, List, [], ◌∷◌, ◌++◌, map, length, get_or, Some, codes, chars, decimal, encode_utf8, encode_utf8_all, refl, sym, ap, ◌∙◌, subst, arith}
use Rattle.std.specs.Char.{is_ascii_digit}
use Rattle.std.specs.List.{list_all}
use Rattle.std.specs.Str.{IsUtf8}
use Rattle.std.proofs.lemmas.Bool.Decides.{nat_tests}
use Rattle.std.proofs.lemmas.Fmt.{decimal_by_steps}
use Rattle.std.proofs.lemmas.List.{append-nil, drop_at, length-append}
use Rattle.std.proofs.lemmas.List.Sums.{fold-append}
use Rattle.std.proofs.lemmas.Str.{chars-encodes, encode_ascii, inside_one}
use Rattle.td_values.specs.Names.{is_letter, goes_on_in_name}
use Rattle.td_values.specs.Shown.{doubled, quoted}
use Rattle.td_tokens.specs.declared.token.Word.{Word}
use Rattle.td_tokens.specs.declared.token.Word.TheVariants as w
use Rattle.td_tokens.specs.Laws.{is_in_text}
use Rattle.td_tokens.specs.Lex.{Text, Lexeme, word, name, int, text, Spanned, first, begins_with, run, keyword_of, value, largest_int, symbol_at, is_plain, a_blank, IsQuoted, closing_quote, doubled_quote, character, IsFront, a_keyword, a_name, an_int, a_text, a_symbol, IsLexed, ended, skipped, token}
use Rattle.td_tokens.proofs.Cuts.{digit_goes_on, letter_goes_on, run_is, both}
use Rattle.td_grammar.specs.Grammar.{Tokens}
use Rattle.td_literal_round_trip.specs.Literals.{IsPlainName, IsPlainText}

-- the text is read as these tokens
abbrev pub Lexes : Text → Tokens → Type 0
Lexes bs r = (at : ℕ) → (ts : List Spanned) × IsLexed at bs ts × (map (λ (t : Spanned). t.lexeme) ts ≡ r)

pub at_end : Lexes [] []
at_end at = ([], ended, refl)

pub past_blank : (rest : Text) (r : Tokens) → Lexes rest r → Lexes (32 ∷ rest) r
past_blank rest r more at = let d = more (at + 1) in (d.0, skipped (a_blank refl) d.1, d.2)

pub past : (t rest : Text) (l : Lexeme) (r : Tokens) → IsFront (t ++ rest) l (length t) → Lexes rest r → Lexes (t ++ rest) (l ∷ r)
past t rest l r front more at =
    let d = more (at + length t) in (
      record { lexeme = l; start = at; end = at + length t } ∷ d.0,
      token front (subst (λ bs. IsLexed (at + length t) bs d.0) (sym (drop_at t rest (length t) refl)) d.1),
      ap (λ ls. l ∷ ls) d.2,
    )

-- ---- symbols
module _ (rest : Text) (r : Tokens) (more : Lexes rest r) where
  pub past_comma : Lexes (44 ∷ rest) (word w.Comma ∷ r)
  unfolding symbol_at
  past_comma = past (44 ∷ []) rest (word w.Comma) r (a_symbol {s = (44 ∷ [], w.Comma)} refl refl) more

  pub past_dash : Lexes (45 ∷ rest) (word w.Dash ∷ r)
  unfolding symbol_at
  past_dash = past (45 ∷ []) rest (word w.Dash) r (a_symbol {s = (45 ∷ [], w.Dash)} refl refl) more

  pub past_open_parenthesis : Lexes (40 ∷ rest) (word w.OpenParenthesis ∷ r)
  unfolding symbol_at
  past_open_parenthesis = past (40 ∷ []) rest (word w.OpenParenthesis) r (a_symbol {s = (40 ∷ [], w.OpenParenthesis)} refl refl) more

  pub past_close_parenthesis : Lexes (41 ∷ rest) (word w.CloseParenthesis ∷ r)
  unfolding symbol_at
  past_close_parenthesis = past (41 ∷ []) rest (word w.CloseParenthesis) r (a_symbol {s = (41 ∷ [], w.CloseParenthesis)} refl refl) more

  pub past_open_brace : Lexes (123 ∷ rest) (word w.OpenBrace ∷ r)
  unfolding symbol_at
  past_open_brace = past (123 ∷ []) rest (word w.OpenBrace) r (a_symbol {s = (123 ∷ [], w.OpenBrace)} refl refl) more

  pub past_close_brace : Lexes (125 ∷ rest) (word w.CloseBrace ∷ r)
  unfolding symbol_at
  past_close_brace = past (125 ∷ []) rest (word w.CloseBrace) r (a_symbol {s = (125 ∷ [], w.CloseBrace)} refl refl) more

-- ---- runs
-- neither a run nor a text literal goes on there
pub record IsApart (rest : Text) : Type 0 where
  pub no_run : goes_on_in_name (first rest) ≡ false
  pub no_quote : begins_with (codes "'") rest ≡ false

run_stops : (t rest : Text) → list_all goes_on_in_name t ≡ true → goes_on_in_name (first rest) ≡ false → run (t ++ rest) ≡ t
run_stops [] [] all stop = refl
run_stops [] (b ∷ bs) all stop = rw stop refl
run_stops (c ∷ t) rest all stop =
    let goes = both (goes_on_in_name c) (list_all goes_on_in_name t) all in
    run_is c (t ++ rest) goes.0 ∙ ap (λ u. c ∷ u) (run_stops t rest goes.1 stop)

pub past_keyword : (b : ℕ) (t rest : Text) (v : Word) (r : Tokens) → is_letter b ≡ true → list_all goes_on_in_name t ≡ true → keyword_of (b ∷ t) ≡ Some v → IsApart rest → Lexes rest r → Lexes (b ∷ t ++ rest) (word v ∷ r)
past_keyword b t rest v r letter all is apart more =
    let run_of : run (b ∷ t ++ rest) ≡ b ∷ t = run_is b (t ++ rest) (letter_goes_on b letter) ∙ ap (λ u. b ∷ u) (run_stops t rest all apart.no_run) in
    past (b ∷ t) rest (word v) r (subst (λ n. IsFront (b ∷ t ++ rest) (word v) n) (ap length run_of) (a_keyword letter (ap keyword_of run_of ∙ is))) more

pub past_name : (n rest : Text) (r : Tokens) → IsPlainName n → IsApart rest → Lexes rest r → Lexes (n ++ rest) (name n ∷ r)
past_name [] rest r is apart more = absurd (let no = is.0 in cc)
past_name (b ∷ t) rest r is apart more =
    let shape = both (is_letter b) (list_all goes_on_in_name t && nat_le (length (b ∷ t)) 64) is.0 in
    let tail = both (list_all goes_on_in_name t) (nat_le (length (b ∷ t)) 64) shape.1 in
    let short : length (b ∷ t) ≤ 64 = grind (arith, nat_tests, tail.1) in
    let run_of : run (b ∷ t ++ rest) ≡ b ∷ t = run_is b (t ++ rest) (letter_goes_on b shape.0) ∙ ap (λ u. b ∷ u) (run_stops t rest tail.0 apart.no_run) in
    past (b ∷ t) rest (name (b ∷ t)) r (subst (λ u. IsFront (b ∷ t ++ rest) (name u) (length u)) run_of (a_name shape.0 (ap keyword_of run_of ∙ is.1) (rw run_of short))) more

-- ---- integers
-- digits of this value
abbrev pub Writes : ℕ → Text → Type 0
Writes n ds = (0 < length ds) × (list_all is_ascii_digit ds ≡ true) × (value ds ≡ n)

one_digit : (n : ℕ) → n < 10 → Writes n ((48 + n) ∷ [])
one_digit n small = (omega arith, grind (arith, nat_tests), omega arith)

digits_push : (ds : Text) (c : ℕ) → list_all is_ascii_digit ds ≡ true → is_ascii_digit c ≡ true → list_all is_ascii_digit (ds ++ c ∷ []) ≡ true
digits_push [] c all is = rw is refl
digits_push (d ∷ ds) c all is =
    let parts = both (is_ascii_digit d) (list_all is_ascii_digit ds) all in
    rw parts.0 (digits_push ds c parts.1 is)

value_push : (ds : Text) (c : ℕ) → value (ds ++ c ∷ []) ≡ 10 * value ds + (c - 48)
value_push ds c = fold-append (λ n b. 10 * n + (b - 48)) 0 ds (c ∷ [])

one_more : (n : ℕ) (ds : Text) → 10 ≤ n → Writes (n / 10) ds → Writes n (ds ++ (48 + n % 10) ∷ [])
one_more n ds large is = (
  omega (arith, length-append ds ((48 + n % 10) ∷ [])),
  digits_push ds (48 + n % 10) is.1 (grind (arith, nat_tests)),
  value_push ds (48 + n % 10) ∙ (let e = is.2 in omega (arith, e)),
)

writes : (n : ℕ) → n < 2 ^ 64 → Writes n (decimal n)
writes = decimal_by_steps Writes one_digit one_more

digits_go_on : (ds : Text) → list_all is_ascii_digit ds ≡ true → list_all goes_on_in_name ds ≡ true
digits_go_on [] all = refl
digits_go_on (d ∷ ds) all =
    let parts = both (is_ascii_digit d) (list_all is_ascii_digit ds) all in
    rw (digit_goes_on d parts.0) (digits_go_on ds parts.1)

pub past_digits : (ds rest : Text) (n : ℕ) (r : Tokens) → Writes n ds → n ≤ largest_int → IsApart rest → Lexes rest r → Lexes (ds ++ rest) (int n ∷ r)
past_digits [] rest n r is small apart more = absurd (omega (arith, is.0))
past_digits (d ∷ ds) rest n r is small apart more =
    let parts = both (is_ascii_digit d) (list_all is_ascii_digit ds) is.1 in
    let run_of : run (d ∷ ds ++ rest) ≡ d ∷ ds = run_stops (d ∷ ds) rest (digits_go_on (d ∷ ds) is.1) apart.no_run in
    let value_of : value (run (d ∷ ds ++ rest)) ≡ n = ap value run_of ∙ is.2 in
    let front : IsFront (d ∷ ds ++ rest) (int (value (run (d ∷ ds ++ rest)))) (length (run (d ∷ ds ++ rest))) = an_int parts.0 (rw run_of is.1) (rw value_of small) in
    past (d ∷ ds) rest (int n) r (subst (λ m. IsFront (d ∷ ds ++ rest) (int m) (length (d ∷ ds))) value_of (subst (λ u. IsFront (d ∷ ds ++ rest) (int (value (run (d ∷ ds ++ rest)))) (length u)) run_of front)) more

pub past_decimal : (n : ℕ) (rest : Text) (r : Tokens) → n ≤ largest_int → IsApart rest → Lexes rest r → Lexes (decimal n ++ rest) (int n ∷ r)
past_decimal n rest r small apart more = past_digits (decimal n) rest n r (writes n (omega arith)) small apart more

-- ---- text literals
-- no byte is a quote
abbrev HasNoQuote : Text → Type 0
HasNoQuote xs = (k : ℕ) → k < length xs → get_or xs k 0 ≢ 39

no_quote : (b : ℕ) → b ≢ 39 → (b == 39) ≡ false
no_quote b h = grind (arith, nat_tests)

doubled_kept : (xs ys : Text) → HasNoQuote xs → doubled (xs ++ ys) ≡ xs ++ doubled ys
doubled_kept [] ys none = refl
doubled_kept (x ∷ xs) ys none = rw (no_quote x (none 0 (omega arith))) (ap (λ zs. x ∷ zs) (doubled_kept xs ys (λ k l. none (suc k) (omega arith))))

encode_kept : (c : ℕ) → c ≢ 39 → HasNoQuote (encode_utf8 c)
encode_kept c differs k l is = let small : get_or (encode_utf8 c) k 0 < 128 = omega arith in differs (inside_one c [] (encode_utf8 c) k (sym (append-nil (encode_utf8 c))) l small ∙ is)

is_number : (b c : ℕ) → (b == c) ≡ true → b ≡ c
is_number b c h = grind (arith, nat_tests)

other_number : (b c : ℕ) → (b == c) ≡ false → b ≢ c
other_number b c h = grind (arith, nat_tests)

-- to double quotes among characters is to double them among bytes
doubled_by : (b : Bool) (c : ℕ) (cs : List ℕ) → (c == 39) ≡ b → encode_utf8_all (doubled cs) ≡ doubled (encode_utf8_all cs) → encode_utf8_all ((if b then 39 ∷ 39 ∷ [] else c ∷ []) ++ doubled cs) ≡ doubled (encode_utf8 c ++ encode_utf8_all cs)
doubled_by true c cs is rest =
    let quote : encode_utf8 39 ≡ 39 ∷ [] = encode_ascii 39 (omega arith) in
    (λ i. quote i ++ (quote i ++ rest i)) ∙ ap (λ q. doubled (q ++ encode_utf8_all cs)) (sym (ap encode_utf8 (is_number c 39 is) ∙ quote))
doubled_by false c cs is rest =
    ap (λ ys. encode_utf8 c ++ ys) rest ∙ sym (doubled_kept (encode_utf8 c) (encode_utf8_all cs) (encode_kept c (other_number c 39 is)))

doubled_bytes : (cs : List ℕ) → encode_utf8_all (doubled cs) ≡ doubled (encode_utf8_all cs)
doubled_bytes [] = refl
doubled_bytes (c ∷ cs) = doubled_by (c == 39) c cs refl (doubled_bytes cs)

quoted_bytes : (x : Text) → IsUtf8 x → quoted x ≡ 39 ∷ (doubled x ++ 39 ∷ [])
quoted_bytes x u =
    let cs : chars x ≡ u.0 = ap chars (sym u.1.1) ∙ chars-encodes u.0 u.1.0 in
    ap (λ ys. 39 ∷ (ys ++ 39 ∷ [])) (ap (λ ys. encode_utf8_all (doubled ys)) cs ∙ doubled_bytes u.0 ∙ ap doubled u.1.1)

plain : (b : ℕ) → is_in_text b ≡ true → (b == 39) ≡ false → is_plain b ≡ true
plain b fine other = grind (arith, nat_tests)

module _ (rest : Text) (ends : begins_with (codes "'") rest ≡ false) where
  quoted_by : (v : Bool) (b : ℕ) (x : Text) → (b == 39) ≡ v → is_in_text b ≡ true → IsQuoted ((doubled x ++ 39 ∷ []) ++ rest) x (length (doubled x ++ 39 ∷ []))
      → IsQuoted ((((if v then 39 ∷ 39 ∷ [] else b ∷ []) ++ doubled x) ++ 39 ∷ []) ++ rest) (b ∷ x) (length (((if v then 39 ∷ 39 ∷ [] else b ∷ []) ++ doubled x) ++ 39 ∷ []))
  quoted_by true b x is fine more =
      subst (λ c. IsQuoted (39 ∷ 39 ∷ (doubled x ++ 39 ∷ []) ++ rest) (c ∷ x) (suc (suc (length (doubled x ++ 39 ∷ []))))) (sym (is_number b 39 is)) (doubled_quote more)
  quoted_by false b x is fine more = character (plain b fine is) more

  is_quoted : (x : Text) → list_all is_in_text x ≡ true → IsQuoted ((doubled x ++ 39 ∷ []) ++ rest) x (length (doubled x ++ 39 ∷ []))
  is_quoted [] all = closing_quote ends
  is_quoted (b ∷ x) all =
      let parts = both (is_in_text b) (list_all is_in_text x) all in
      quoted_by (b == 39) b x refl parts.0 (is_quoted x parts.1)

pub past_quoted : (x rest : Text) (r : Tokens) → IsPlainText x → IsApart rest → Lexes rest r → Lexes (quoted x ++ rest) (text x ∷ r)
past_quoted x rest r is apart more =
    subst (λ t. Lexes (t ++ rest) (text x ∷ r)) (sym (quoted_bytes x is.0))
    (past (39 ∷ (doubled x ++ 39 ∷ [])) rest (text x) r (a_text (is_quoted rest apart.no_quote x is.1)) more)
