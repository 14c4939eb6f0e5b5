-- What has been read so far, and what is left: the invariant of the loop over a text, and what one piece keeps of it.
use Rattle.std.proofs.Common.{◌≡◌, ◌≤◌, ◌<◌, ◌+◌, ◌-◌, ◌==◌, ℕ, Bool, true, false, cond, List, [], ◌∷◌, ◌++◌, Option, Some, None, length, take, drop, map, refl, ap, sym, ◌∙◌, subst, arith, append_assoc, length-drop, IsUtf8}
use Rattle.std.specs.Prelude.{All, nat_le, option_map, option_and_then, slice_range}
use Rattle.std.specs.Str.{IsCharBoundary}
use Rattle.std.proofs.lemmas.Bool.Decides.{nat_tests}
use Rattle.std.proofs.lemmas.List.{map-append, drop-drop, append-nil}
use Rattle.std.proofs.lemmas.List.Elements.{All-nil, All-push}
use Rattle.std.proofs.lemmas.Str.{IsUtf8-drop}
use Rattle.td_tokens.specs.declared.token.TokenKind.{TokenKind}
use Rattle.td_tokens.specs.declared.token.TokenKind.TheVariants as kind
use Rattle.td_tokens.specs.declared.token.Token.{Token}
use Rattle.td_tokens.specs.declared.piece.Piece.{Piece}
use Rattle.td_tokens.specs.Lex.{Text, Spanned, open_after, most_open}
use Rattle.td_tokens.specs.Lexer.{lexeme, front, Lexed, piece_then, lexed, reading}
use Rattle.td_tokens.specs.View.{spanned_of}
use Rattle.td_tokens.proofs.Cuts.{IsCut, skipped_cut, front_cut}
use Rattle.td_tokens.proofs.Fronts.{Stands, white_space, a_token, front_found}
use Rattle.td_tokens.proofs.OneReading.{piece_step}
use Rattle.td_tokens.proofs.Boundaries.{cut_boundary}

-- these tokens first, where there is a reading
abbrev pub after_tokens : List Spanned → Lexed → Lexed
after_tokens ts = option_map (λ us. ts ++ us)

abbrev pub IsSlice : Text → Token → Type 0
IsSlice source t = t.text.now ≡ slice_range source t.start t.end

-- what is read so far, before what is left
pub record IsReadTo (source : Text) (ts : List Token) (start depth : ℕ) (rest : Text) : Type 0 where
  pub whole : reading source ≡ after_tokens (map spanned_of ts) (lexed 0 depth start rest)
  pub slices : All (IsSlice source) ts
  pub rest_is : rest ≡ drop start source
  pub in_range : start + length rest ≡ length source
  pub utf8 : IsUtf8 rest
  pub shallow : depth ≤ most_open

after_one : (ts : List Spanned) (t : Spanned) (o : Lexed) → after_tokens ts (option_map (λ us. t ∷ us) o) ≡ after_tokens (ts ++ t ∷ []) o
after_one ts t None = refl
after_one ts t (Some us) = ap Some (sym (append_assoc ts (t ∷ []) us))

-- the bytes of a token do not count for brackets
pub same_open : (depth : ℕ) (k : TokenKind) (bs : Text) → open_after depth (lexeme k bs) ≡ open_after depth (lexeme k [])
same_open depth (kind.Word v) bs = refl
same_open depth kind.Name bs = refl
same_open depth (kind.Int n) bs = refl
same_open depth kind.Text bs = refl

after_none : (o : Lexed) → o ≡ after_tokens [] o
after_none None = refl
after_none (Some ts) = refl

pub read_start : (source : Text) → IsUtf8 source → IsReadTo source [] 0 0 source
read_start source utf8 = record {
  whole = after_none (reading source);
  slices = All-nil (IsSlice source);
  rest_is = refl;
  in_range = omega arith;
  utf8 = utf8;
  shallow = omega arith;
}

stands_cut : (bs : Text) (p : Piece) → Stands bs p → IsCut bs p.length
stands_cut bs p (white_space white) = skipped_cut white
stands_cut bs p (a_token first) = front_cut first

-- a piece at the front is a part of the text
pub piece_cut : (bs : Text) (p : Piece) → front bs ≡ Some p → IsCut bs p.length
piece_cut bs p is = stands_cut bs p (front_found bs p is)

module _ {source : Text} {ts : List Token} {start depth : ℕ} {rest : Text} (read : IsReadTo source ts start depth rest) (p : Piece) (is : front rest ≡ Some p) where
  cut : IsCut rest p.length
  cut = piece_cut rest p is

  pub boundary : IsCharBoundary rest p.length
  boundary = cut_boundary rest p.length read.utf8 cut

  pub fits : start + p.length ≤ length source
  fits = let e = cut.length_is in let h = cut.within in let r = read.in_range in omega arith

  pub moves : 0 < p.length
  moves = let e = cut.length_is in omega arith

  rest_after : drop p.length rest ≡ drop (start + p.length) source
  rest_after = ap (drop p.length) read.rest_is ∙ drop-drop p.length start source

  range_after : start + p.length + length (drop p.length rest) ≡ length source
  range_after = let e = cut.length_is in let h = cut.within in let r = read.in_range in omega (arith, length-drop p.length rest)

  utf8_after : IsUtf8 (drop p.length rest)
  utf8_after = IsUtf8-drop rest p.length read.utf8 boundary

  step : (o : Option TokenKind) → p.kind ≡ o → lexed 0 depth start rest ≡ piece_then (λ d. lexed 0 d (start + p.length) (drop p.length rest)) depth start rest o p.length
  step o e = piece_step rest depth start p cut is ∙ ap (λ x. piece_then (λ d. lexed 0 d (start + p.length) (drop p.length rest)) depth start rest x p.length) e

  -- white space adds no token
  pub read_white : p.kind ≡ None → IsReadTo source ts (start + p.length) depth (drop p.length rest)
  read_white none = record {
    whole = read.whole ∙ ap (after_tokens (map spanned_of ts)) (step None none);
    slices = read.slices;
    rest_is = rest_after;
    in_range = range_after;
    utf8 = utf8_after;
    shallow = read.shallow;
  }

  -- a token is added
  pub read_token : (k : TokenKind) (t : Token) → p.kind ≡ Some k → t.kind ≡ k → t.text.now ≡ take p.length rest → t.start ≡ start → t.end ≡ start + p.length → open_after depth (lexeme k []) ≤ most_open → IsReadTo source (ts ++ t ∷ []) (start + p.length) (open_after depth (lexeme k [])) (drop p.length rest)
  read_token k t some kind_is text_is start_is end_is shallow =
      let spanned : spanned_of t ≡ record { lexeme = lexeme k (take p.length rest); start = start; end = start + p.length } = (λ i. record { lexeme = lexeme (kind_is i) (text_is i); start = start_is i; end = end_is i }) in
      let fits : nat_le (open_after depth (lexeme k [])) most_open ≡ true = grind (arith, nat_tests) in
      let range : take p.length rest ≡ slice_range source start (start + p.length) = (let e : p.length ≡ start + p.length - start = omega arith in ap (λ n. take n rest) e ∙ ap (take (start + p.length - start)) read.rest_is) in
      let slice : IsSlice source t = text_is ∙ range ∙ ap (λ n. slice_range source n (start + p.length)) (sym start_is) ∙ ap (slice_range source t.start) (sym end_is) in
      record {
        whole = read.whole
            ∙ ap (after_tokens (map spanned_of ts)) (step (Some k) some
            ∙ ap (λ d. cond (nat_le d most_open) (option_map (λ us. record { lexeme = lexeme k (take p.length rest); start = start; end = start + p.length } ∷ us) (lexed 0 d (start + p.length) (drop p.length rest))) None) (same_open depth k (take p.length rest))
            ∙ rw fits (ap (λ (x : Spanned). option_map (λ us. x ∷ us) (lexed 0 (open_after depth (lexeme k [])) (start + p.length) (drop p.length rest))) (sym spanned)))
            ∙ after_one (map spanned_of ts) (spanned_of t) (lexed 0 (open_after depth (lexeme k [])) (start + p.length) (drop p.length rest))
            ∙ ap (λ xs. after_tokens xs (lexed 0 (open_after depth (lexeme k [])) (start + p.length) (drop p.length rest))) (sym (map-append spanned_of ts (t ∷ [])));
        slices = All-push (IsSlice source) ts t read.slices slice;
        rest_is = rest_after;
        in_range = range_after;
        utf8 = utf8_after;
        shallow = shallow;
      }

  -- too many brackets are open
  pub read_too_deep : (k : TokenKind) → p.kind ≡ Some k → most_open < open_after depth (lexeme k []) → reading source ≡ None
  read_too_deep k some deep =
      let past : nat_le (open_after depth (lexeme k [])) most_open ≡ false = grind (arith, nat_tests) in
      read.whole
      ∙ ap (after_tokens (map spanned_of ts)) (step (Some k) some
      ∙ ap (λ d. cond (nat_le d most_open) (option_map (λ us. record { lexeme = lexeme k (take p.length rest); start = start; end = start + p.length } ∷ us) (lexed 0 d (start + p.length) (drop p.length rest))) None) (same_open depth k (take p.length rest))
      ∙ ap (λ b. cond b (option_map (λ us. record { lexeme = lexeme k (take p.length rest); start = start; end = start + p.length } ∷ us) (lexed 0 (open_after depth (lexeme k [])) (start + p.length) (drop p.length rest))) None) past)

nothing_left : (ts : List Spanned) (depth start : ℕ) (rest : Text) → length rest ≡ 0 → after_tokens ts (lexed 0 depth start rest) ≡ Some ts
unfolding lexed
nothing_left ts depth start [] empty = ap Some (append-nil ts)
nothing_left ts depth start (b ∷ bs) empty = absurd (omega arith)

-- nothing is left
pub read_whole : (source : Text) (ts : List Token) (start depth : ℕ) (rest : Text) → IsReadTo source ts start depth rest → length rest ≡ 0 → reading source ≡ Some (map spanned_of ts)
read_whole source ts start depth rest read empty = read.whole ∙ nothing_left (map spanned_of ts) depth start rest empty

pub stuck : (depth start : ℕ) (rest : Text) → 0 < length rest → front rest ≡ None → lexed 0 depth start rest ≡ None
unfolding lexed
stuck depth start [] nonempty none = absurd (omega arith)
stuck depth start (b ∷ bs) nonempty none =
    ap (λ o. option_and_then (λ (q : Piece). piece_then (λ d. lexed (q.length - 1) d (start + 1) bs) depth start (b ∷ bs) q.kind q.length) o) none

-- nothing can stand here
pub read_stuck : (source : Text) (ts : List Token) (start depth : ℕ) (rest : Text) → IsReadTo source ts start depth rest → 0 < length rest → front rest ≡ None → reading source ≡ None
read_stuck source ts start depth rest read nonempty none = read.whole ∙ ap (after_tokens (map spanned_of ts)) (stuck depth start rest nonempty none)

pub nonempty_if : (bs : Text) (r : Bool) → r ≡ (length bs == 0) → r ≡ false → 0 < length bs
nonempty_if bs r is h = grind (arith, nat_tests)

pub empty_if : (bs : Text) (r : Bool) → r ≡ (length bs == 0) → r ≡ true → length bs ≡ 0
empty_if bs r is h = grind (arith, nat_tests)

-- the same, said of equal values
pub read_as : (source : Text) (ts us : List Token) (start depth later : ℕ) (rest after : Text) → us ≡ ts → later ≡ depth → after ≡ rest → IsReadTo source ts start depth rest → IsReadTo source us start later after
read_as source ts us start depth later rest after ts_is depth_is rest_is read =
    subst (λ xs. IsReadTo source xs start later after) (sym ts_is) (subst (λ d. IsReadTo source ts start d after) (sym depth_is) (subst (λ bs. IsReadTo source ts start depth bs) (sym rest_is) read))
