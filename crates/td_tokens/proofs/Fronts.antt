-- What stands at the front of a text: the function finds what the clauses say, and nothing else.
use Rattle.std.proofs.Common.{◌≡◌, ◌≤◌, ◌+◌, ◌==◌, ◌&&◌, ◌⊎◌, inl, inr, ℕ, suc, Bool, true, false, cond, [], ◌∷◌, Option, Some, None, length, take, drop, refl, ap, sym, ◌∙◌, subst, arith, codes}
use Rattle.std.proofs.lemmas.Bool.Decides.{nat_tests}
use Rattle.std.proofs.lemmas.List.Folds.{length-prefix_len}
use Rattle.std.specs.Char.{is_ascii_digit}
use Rattle.std.specs.List.{list_all}
use Rattle.std.specs.Prelude.{nat_le, option_map, slice_index}
use Rattle.td_values.specs.Names.{is_letter, goes_on_in_name}
use Rattle.td_tokens.specs.declared.token.Word.{Word}
use Rattle.td_tokens.specs.declared.token.TokenKind.{TokenKind}
use Rattle.td_tokens.specs.declared.token.TokenKind.TheVariants as kind
use Rattle.td_tokens.specs.declared.piece.Piece.{Piece}
use Rattle.td_tokens.specs.Words.{Spelling}
use Rattle.td_tokens.specs.Lex.{Text, Lexeme, name, text, first, begins_with, is_blank, is_plain, run, keyword_of, value, largest_int, symbol_at, EndsComment, closing, inside, IsSkipped, a_blank, a_comment, IsQuoted, closing_quote, doubled_quote, character, IsFront, a_keyword, a_name, an_int, a_text, a_symbol}
use Rattle.td_tokens.specs.Lexer.{undoubled, lexeme, comment_end, text_end, int_kind, word_or_name, name_kind, run_kind, skipping, taking, run_piece, symbol_piece, front}
use Rattle.td_tokens.proofs.Cuts.{letter_goes_on, digit_goes_on, run_is, symbol_sign, begins_is, both}

pub none_some : {A : Type 0} {p : A} → None ≡ Some p → ⊥
none_some h = cc

-- ---- comments

no_end : (b : ℕ) (bs : Text) → begins_with (codes "*/") (b ∷ bs) ≡ false → (b == 42 && slice_index bs 0 == 47) ≡ false
no_end b [] h = grind (arith, nat_tests)
no_end b (c ∷ bs) h = grind (arith, nat_tests)

comment_goes : {bs : Text} {n : ℕ} → EndsComment bs n → (after_star : Bool) (at : ℕ) → (after_star && slice_index bs 0 == 47) ≡ false → comment_end after_star at bs ≡ Some (at + n)
comment_goes (closing {bs}) after_star at h = let e : at + 1 + 1 ≡ at + 2 = omega arith in rw h (ap Some e)
comment_goes (inside {b} {n} {bs} other d) after_star at h =
    let e : at + 1 + n ≡ at + suc n = omega arith in
    rw h (comment_goes d (b == 42) (at + 1) (no_end b bs other) ∙ ap Some e)

end_at : (b c : ℕ) → (b == 42 && c == 47) ≡ true → (b ≡ 42) × (c ≡ 47)
end_at b c h = (grind (arith, nat_tests), grind (arith, nat_tests))

inside_at : (b c : ℕ) (bs : Text) → (b == 42 && c == 47) ≡ false → begins_with (codes "*/") (b ∷ c ∷ bs) ≡ false
inside_at b c bs h = grind (arith, nat_tests)

-- a comment that ends so far on
abbrev pub IsCommentAt : ℕ → Text → ℕ → Type 0
IsCommentAt at bs m = (n : ℕ) × EndsComment bs n × (m ≡ at + n)

comment_step : (b c : ℕ) (bs : Text) (at m : ℕ) → comment_end (b == 42) (at + 1) (c ∷ bs) ≡ Some m → ((b == 42 && c == 47) ≡ false → IsCommentAt (at + 1) (c ∷ bs) m) → (v : Bool) → (b == 42 && c == 47) ≡ v → IsCommentAt at (b ∷ c ∷ bs) m
comment_step b c bs at m h later true e =
    let both = end_at b c e in
    let here : ◌≡◌ {A = Option ℕ} (Some (at + 1 + 1)) (Some m) = rw e at h in
    let is : at + 1 + 1 ≡ m = cc in
    (2, subst (λ x. EndsComment (x ∷ c ∷ bs) 2) (sym both.0) (subst (λ x. EndsComment (42 ∷ x ∷ bs) 2) (sym both.1) closing), omega arith)
comment_step b c bs at m h later false e =
    let rest = later e in
    let is = rest.2 in
    (suc rest.0, inside (inside_at b c bs e) rest.1, omega arith)

comment_found : (bs : Text) (after_star : Bool) (at m : ℕ) → (after_star && slice_index bs 0 == 47) ≡ false → comment_end after_star at bs ≡ Some m → IsCommentAt at bs m
comment_found [] after_star at m first h = absurd (none_some h)
comment_found (b ∷ []) after_star at m first h = absurd (none_some (rw first at h))
comment_found (b ∷ c ∷ bs) after_star at m first h =
    let later : comment_end (b == 42) (at + 1) (c ∷ bs) ≡ Some m = rw first at h in
    comment_step b c bs at m later (λ e. comment_found (c ∷ bs) (b == 42) (at + 1) m e later) (b == 42 && c == 47) refl

-- ---- text literals

after_closing : (bs : Text) (at : ℕ) → begins_with (codes "'") bs ≡ false → text_end true at bs ≡ Some at
after_closing [] at h = refl
after_closing (c ∷ bs) at h = let other : (c == 39) ≡ false = grind (arith, nat_tests) in rw other refl

plain_is_no_quote : (b : ℕ) → is_plain b ≡ true → (b == 39) ≡ false
plain_is_no_quote b h = grind (arith, nat_tests)

text_goes : {bs cs : Text} {n : ℕ} → IsQuoted bs cs n → (at : ℕ) → text_end false at bs ≡ Some (at + n)
text_goes (closing_quote {bs} h) at = after_closing bs (at + 1) h
text_goes (doubled_quote {n} {bs} {cs} d) at = let e : at + 1 + 1 + n ≡ at + suc (suc n) = omega arith in text_goes d (at + 1 + 1) ∙ ap Some e
text_goes (character {b} {n} {bs} {cs} h d) at =
    let e : at + 1 + n ≡ at + suc n = omega arith in
    rw (h, plain_is_no_quote b h) (text_goes d (at + 1) ∙ ap Some e)

text_undoubled : {bs cs : Text} {n : ℕ} → IsQuoted bs cs n → undoubled false (take n bs) ≡ cs
text_undoubled (closing_quote {bs} h) = refl
text_undoubled (doubled_quote {n} {bs} {cs} d) = ap (λ xs. 39 ∷ xs) (text_undoubled d)
text_undoubled (character {b} {n} {bs} {cs} h d) = rw (plain_is_no_quote b h) (ap (λ xs. b ∷ xs) (text_undoubled d))

-- a literal whose rest ends so far on
abbrev pub IsQuotedAt : ℕ → Text → ℕ → Type 0
IsQuotedAt at bs m = (cs : Text) × (n : ℕ) × IsQuoted bs cs n × (m ≡ at + n)

-- a test's two ways
pub ways : {A : Type 0} (t : Bool) (x y z : A) → cond t x y ≡ z → ((t ≡ true) × (x ≡ z)) ⊎ ((t ≡ false) × (y ≡ z))
ways true x y z h = inl (refl, h)
ways false x y z h = inr (refl, h)

is_number : (b c : ℕ) → (b == c) ≡ true → b ≡ c
is_number b c h = grind (arith, nat_tests)

text_step : (b : ℕ) (bs : Text) (at m : ℕ) → text_end false at (b ∷ bs) ≡ Some m → ((b ≡ 39) × (text_end true (at + 1) bs ≡ Some m)) ⊎ ((is_plain b ≡ true) × (text_end false (at + 1) bs ≡ Some m))
text_step b bs at m h =
    elim (ways (b == 39) _ _ _ h) [
      | inl q ↦ inl (is_number b 39 q.0, q.1)
      | inr q ↦ elim (ways (is_plain b) _ _ _ q.1) [ inl r ↦ inr r | inr r ↦ absurd (none_some r.1) ]
    ]

second_step : (c : ℕ) (bs : Text) (at m : ℕ) → text_end true at (c ∷ bs) ≡ Some m → ((c ≡ 39) × (text_end false (at + 1) bs ≡ Some m)) ⊎ (((c == 39) ≡ false) × (at ≡ m))
second_step c bs at m h =
    elim (ways (c == 39) _ _ _ h) [ inl q ↦ inl (is_number c 39 q.0, q.1) | inr q ↦ inr (q.0, (let e : ◌≡◌ {A = Option ℕ} (Some at) (Some m) = q.1 in cc)) ]

no_quote : (c : ℕ) (bs : Text) → (c == 39) ≡ false → begins_with (codes "'") (c ∷ bs) ≡ false
no_quote c bs h = grind (arith, nat_tests)

text_found : (bs : Text) (at m : ℕ) → text_end false at bs ≡ Some m → IsQuotedAt at bs m
text_found [] at m h = absurd (none_some h)
text_found (b ∷ []) at m h =
    elim (text_step b [] at m h) [
      | inl q ↦ (let e : ◌≡◌ {A = Option ℕ} (Some (at + 1)) (Some m) = q.1 in
          let is : at + 1 ≡ m = cc in
          ([], 1, subst (λ x. IsQuoted (x ∷ []) [] 1) (sym q.0) (closing_quote refl), sym is))
      | inr q ↦ absurd (none_some q.1)
    ]
text_found (b ∷ c ∷ bs) at m h =
    elim (text_step b (c ∷ bs) at m h) [
      | inl q ↦ elim (second_step c bs (at + 1) m q.1) [
        | inl r ↦ (let rest = text_found bs (at + 1 + 1) m r.1 in
            let is = rest.3 in
            (39 ∷ rest.0, suc (suc rest.1), subst (λ x. IsQuoted (x ∷ c ∷ bs) (39 ∷ rest.0) (suc (suc rest.1))) (sym q.0) (subst (λ x. IsQuoted (39 ∷ x ∷ bs) (39 ∷ rest.0) (suc (suc rest.1))) (sym r.0) (doubled_quote rest.2)), omega arith))
        | inr r ↦ ([], 1, subst (λ x. IsQuoted (x ∷ c ∷ bs) [] 1) (sym q.0) (closing_quote (no_quote c bs r.0)), sym r.1)
      ]
      | inr q ↦ (let rest = text_found (c ∷ bs) (at + 1) m q.1 in
          let is = rest.3 in
          (b ∷ rest.0, suc rest.1, character q.0 rest.2, omega arith))
    ]

-- ---- the front

-- a piece, as the clauses have it
pub data Stands (bs : Text) : Piece → Type 0 where
  white_space : {n : ℕ} → IsSkipped bs n → Stands bs (record { kind = None; length = n })
  a_token : {k : TokenKind} {n : ℕ} → IsFront bs (lexeme k (take n bs)) n → Stands bs (record { kind = Some k; length = n })

letter_no_blank : (b : ℕ) → is_letter b ≡ true → is_blank b ≡ false
letter_no_blank b h = grind (arith, nat_tests)

digit_no_blank : (b : ℕ) → is_ascii_digit b ≡ true → is_blank b ≡ false
digit_no_blank b h = grind (arith, nat_tests)

digit_no_letter : (b : ℕ) → is_ascii_digit b ≡ true → is_letter b ≡ false
digit_no_letter b h = grind (arith, nat_tests)

take_run : (bs : Text) → take (length (run bs)) bs ≡ run bs
take_run bs = ap (λ n. take n bs) (length-prefix_len goes_on_in_name bs)

run_first : (bs : Text) → goes_on_in_name (first bs) ≡ true → first (run bs) ≡ first bs
run_first [] h = refl
run_first (b ∷ bs) h = ap first (run_is b bs h)

run_goes : (bs : Text) (k : TokenKind) → is_blank (first bs) ≡ false → goes_on_in_name (first bs) ≡ true → run_kind (run bs) ≡ Some k → front bs ≡ Some (record { kind = Some k; length = length (run bs) })
unfolding front
run_goes bs k no_blank goes is = rw (no_blank, goes, is) refl

pub skipped_goes : {bs : Text} {n : ℕ} → IsSkipped bs n → front bs ≡ Some (record { kind = None; length = n })
unfolding front
skipped_goes (a_blank {bs} h) = rw h refl
skipped_goes (a_comment {n} {bs} d) =
    let e : 2 + n ≡ suc (suc n) = omega arith in
    rw (comment_goes d false 2 refl) (ap (λ m. Some (record { kind = None; length = m })) e)

-- the function finds this token
abbrev pub IsFound : Text → Lexeme → ℕ → Type 0
IsFound bs l n = (k : TokenKind) × (front bs ≡ Some (record { kind = Some k; length = n })) × (lexeme k (take n bs) ≡ l)

name_kind_goes : (bs : Text) (k : TokenKind) → is_letter (first bs) ≡ true → name_kind (run bs) ≡ Some k → run_kind (run bs) ≡ Some k
unfolding run_kind
name_kind_goes bs k letter is = rw (run_first bs (letter_goes_on (first bs) letter), letter) is

int_kind_goes : (bs : Text) (k : TokenKind) → is_ascii_digit (first bs) ≡ true → int_kind (run bs) ≡ Some k → run_kind (run bs) ≡ Some k
unfolding run_kind
int_kind_goes bs k digit is = rw (run_first bs (digit_goes_on (first bs) digit), digit_no_letter (first bs) digit) is

keyword_kind : (bs : Text) (v : Word) → keyword_of bs ≡ Some v → name_kind bs ≡ Some (kind.Word v)
unfolding name_kind
keyword_kind bs v h = ap (λ o. word_or_name o bs) h

short_kind : (bs : Text) → keyword_of bs ≡ None → length bs ≤ 64 → name_kind bs ≡ Some kind.Name
unfolding name_kind
short_kind bs h short = let fits : nat_le (length bs) 64 ≡ true = grind (arith, nat_tests) in ap (λ o. word_or_name o bs) h ∙ rw fits refl

small_kind : (bs : Text) → list_all is_ascii_digit bs ≡ true → value bs ≤ largest_int → int_kind bs ≡ Some (kind.Int (value bs))
unfolding int_kind
small_kind bs all small = let fits : nat_le (value bs) largest_int ≡ true = grind (arith, nat_tests) in rw (all, fits) refl

text_goes_front : (bs : Text) (m : ℕ) → text_end false 1 bs ≡ Some m → front (39 ∷ bs) ≡ Some (record { kind = Some kind.Text; length = m })
unfolding front
text_goes_front bs m h = rw h refl

symbol_goes_front : (bs : Text) (s : Spelling) → begins_with (codes "/*") bs ≡ false → symbol_at bs ≡ Some s → front bs ≡ Some (record { kind = Some (kind.Word s.1); length = length s.0 })
unfolding front
symbol_goes_front bs s no_comment h =
    let other = (symbol_sign bs s h).other in
    rw (other.0, other.1, other.2, no_comment, h) refl

pub front_goes : {bs : Text} {l : Lexeme} {n : ℕ} → IsFront bs l n → IsFound bs l n
front_goes (a_keyword {bs} {v} letter is) =
    (kind.Word v, run_goes bs (kind.Word v) (letter_no_blank (first bs) letter) (letter_goes_on (first bs) letter) (name_kind_goes bs (kind.Word v) letter (keyword_kind (run bs) v is)), refl)
front_goes (a_name {bs} letter is short) =
    (kind.Name, run_goes bs kind.Name (letter_no_blank (first bs) letter) (letter_goes_on (first bs) letter) (name_kind_goes bs kind.Name letter (short_kind (run bs) is short)), ap name (take_run bs))
front_goes (an_int {bs} digit all small) =
    let k : TokenKind = kind.Int (value (run bs)) in
    (k, run_goes bs k (digit_no_blank (first bs) digit) (digit_goes_on (first bs) digit) (int_kind_goes bs k digit (small_kind (run bs) all small)), refl)
front_goes (a_text {n} {bs} {cs} d) =
    let e : 1 + n ≡ suc n = omega arith in
    (kind.Text, text_goes_front bs (suc n) (text_goes d 1 ∙ ap Some e), ap text (text_undoubled d))
front_goes (a_symbol {bs} {s} no_comment is) = (kind.Word s.1, symbol_goes_front bs s no_comment is, refl)

-- ---- and back

pub mapped : {A B : Type 0} (f : A → B) (o : Option A) (y : B) → option_map f o ≡ Some y → (x : A) × (o ≡ Some x) × (f x ≡ y)
mapped f None y h = absurd (none_some h)
mapped f (Some x) y h = (x, refl, (let e : ◌≡◌ {A = Option _} (Some (f x)) (Some y) = h in cc))

-- a kind of a run, as the clauses have it
abbrev pub IsRunToken : Text → TokenKind → Type 0
IsRunToken bs k = IsFront bs (lexeme k (run bs)) (length (run bs))

name_found_by : (bs : Text) (k : TokenKind) (o : Option Word) → is_letter (first bs) ≡ true → keyword_of (run bs) ≡ o → word_or_name o (run bs) ≡ Some k → IsRunToken bs k
name_found_by bs k (Some v) letter is h =
    let e : kind.Word v ≡ k = cc in
    subst (IsRunToken bs) e (a_keyword letter is)
name_found_by bs k None letter is h =
    elim (ways (nat_le (length (run bs)) 64) (Some kind.Name) None (Some k) h) [
      | inl q ↦ (let e' : ◌≡◌ {A = Option TokenKind} (Some kind.Name) (Some k) = q.1 in
          let e : kind.Name ≡ k = cc in
          let short : length (run bs) ≤ 64 = grind (arith, nat_tests, q.0) in
          subst (IsRunToken bs) e (a_name letter is short))
      | inr q ↦ absurd (none_some q.1)
    ]

name_found : (bs : Text) (k : TokenKind) → is_letter (first bs) ≡ true → name_kind (run bs) ≡ Some k → IsRunToken bs k
unfolding name_kind
name_found bs k letter h = name_found_by bs k (keyword_of (run bs)) letter refl h

-- where all of a run are digits, so is its first byte
digit_first : (bs : Text) → goes_on_in_name (first bs) ≡ true → list_all is_ascii_digit (run bs) ≡ true → is_ascii_digit (first bs) ≡ true
digit_first [] goes all = absurd (let no : ⊥ = cc in no)
digit_first (b ∷ bs) goes all = (both (is_ascii_digit b) (list_all is_ascii_digit (run bs)) (subst (λ xs. list_all is_ascii_digit xs ≡ true) (run_is b bs goes) all)).0

int_found : (bs : Text) (k : TokenKind) → goes_on_in_name (first bs) ≡ true → int_kind (run bs) ≡ Some k → IsRunToken bs k
unfolding int_kind
int_found bs k goes h =
    elim (ways (list_all is_ascii_digit (run bs) && nat_le (value (run bs)) largest_int) (Some (kind.Int (value (run bs)))) None (Some k) h) [
      | inl q ↦ (let e' : ◌≡◌ {A = Option TokenKind} (Some (kind.Int (value (run bs)))) (Some k) = q.1 in
          let e : kind.Int (value (run bs)) ≡ k = cc in
          let parts = both (list_all is_ascii_digit (run bs)) (nat_le (value (run bs)) largest_int) q.0 in
          let small : value (run bs) ≤ largest_int = grind (arith, nat_tests, parts.1) in
          subst (IsRunToken bs) e (an_int (digit_first bs goes parts.0) parts.0 small))
      | inr q ↦ absurd (none_some q.1)
    ]

run_found : (bs : Text) (k : TokenKind) → goes_on_in_name (first bs) ≡ true → run_kind (run bs) ≡ Some k → IsRunToken bs k
unfolding run_kind
run_found bs k goes h =
    elim (ways (is_letter (first (run bs))) (name_kind (run bs)) (int_kind (run bs)) (Some k) h) [
      | inl q ↦ name_found bs k (subst (λ x. is_letter x ≡ true) (run_first bs goes) q.0) q.1
      | inr q ↦ int_found bs k goes q.1
    ]

run_stands : (bs : Text) (p : Piece) → goes_on_in_name (first bs) ≡ true → run_piece (run bs) ≡ Some p → Stands bs p
run_stands bs p goes h =
    let m = mapped (λ (k : TokenKind). record { kind = Some k; length = length (run bs) }) (run_kind (run bs)) p h in
    subst (Stands bs) m.2 (a_token (subst (λ xs. IsFront bs (lexeme m.0 xs) (length (run bs))) (sym (take_run bs)) (run_found bs m.0 goes m.1)))

text_stands : (bs : Text) (p : Piece) → taking (text_end false 1 bs) ≡ Some p → Stands (39 ∷ bs) p
text_stands bs p h =
    let m = mapped (λ (n : ℕ). record { kind = Some kind.Text; length = n }) (text_end false 1 bs) p h in
    let found = text_found bs 1 m.0 m.1 in
    let e : m.0 ≡ suc found.1 = (let e' = found.3 in omega arith) in
    let front_is : IsFront (39 ∷ bs) (text (undoubled false (take found.1 bs))) (suc found.1) = subst (λ cs. IsFront (39 ∷ bs) (text cs) (suc found.1)) (sym (text_undoubled found.2)) (a_text found.2) in
    subst (Stands (39 ∷ bs)) (ap (λ n. record { kind = Some kind.Text; length = n }) (sym e) ∙ m.2) (a_token front_is)

quote_stands : (bs : Text) (p : Piece) → (first bs == 39) ≡ true → taking (text_end false 1 (drop 1 bs)) ≡ Some p → Stands bs p
quote_stands [] p quote h = absurd (let no : ⊥ = cc in no)
quote_stands (b ∷ bs) p quote h = subst (λ x. Stands (x ∷ bs) p) (sym (is_number b 39 quote)) (text_stands bs p h)

comment_stands : (bs : Text) (p : Piece) → begins_with (codes "/*") bs ≡ true → skipping (comment_end false 2 (drop 2 bs)) ≡ Some p → Stands bs p
comment_stands bs p opens h =
    let m = mapped (λ (n : ℕ). record { kind = None; length = n }) (comment_end false 2 (drop 2 bs)) p h in
    let found = comment_found (drop 2 bs) false 2 m.0 refl m.1 in
    let e : m.0 ≡ suc (suc found.0) = (let e' = found.2 in omega arith) in
    subst (λ xs. Stands xs p) (sym (begins_is (codes "/*") bs opens)) (subst (Stands (47 ∷ 42 ∷ drop 2 bs)) (ap (λ n. record { kind = None; length = n }) (sym e) ∙ m.2) (white_space (a_comment found.1)))

symbol_stands : (bs : Text) (p : Piece) → begins_with (codes "/*") bs ≡ false → symbol_piece bs ≡ Some p → Stands bs p
symbol_stands bs p no_comment h =
    let m = mapped (λ (s : Spelling). record { kind = Some (kind.Word s.1); length = length s.0 }) (symbol_at bs) p h in
    subst (Stands bs) m.2 (a_token (a_symbol no_comment m.1))

-- What the function finds at the front, the clauses have.
pub front_found : (bs : Text) (p : Piece) → front bs ≡ Some p → Stands bs p
unfolding front
front_found bs p h =
    elim (ways (is_blank (first bs)) _ _ _ h) [
      | inl q ↦ subst (Stands bs) (let e : ◌≡◌ {A = Option Piece} (Some (record { kind = None; length = 1 })) (Some p) = q.1 in cc) (white_space (a_blank q.0))
      | inr q ↦ elim (ways (goes_on_in_name (first bs)) _ _ _ q.1) [
        | inl r ↦ run_stands bs p r.0 r.1
        | inr r ↦ elim (ways (first bs == 39) _ _ _ r.1) [
          | inl s ↦ quote_stands bs p s.0 s.1
          | inr s ↦ elim (ways (begins_with (codes "/*") bs) _ _ _ s.1) [
            | inl t ↦ comment_stands bs p t.0 t.1
            | inr t ↦ symbol_stands bs p t.0 t.1
          ]
        ]
      ]
    ]
