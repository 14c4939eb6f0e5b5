-- How far a text has a reading: the invariant of the loop to where it ends, and what one piece keeps of it.
use Rattle.std.proofs.Common.{◌≡◌, ◌≤◌, ◌<◌, ◌+◌, ◌-◌, ◌==◌, ℕ, Bool, true, false, cond, [], ◌∷◌, Option, Some, None, length, take, drop, refl, ap, sym, ◌∙◌, subst, arith, length-drop, IsUtf8}
use Rattle.std.specs.Prelude.{nat_le, option_map, option_and_then}
use Rattle.std.specs.Option.{is_some}
use Rattle.std.specs.Str.{IsCharBoundary}
use Rattle.std.proofs.lemmas.Bool.Decides.{nat_tests}
use Rattle.std.proofs.lemmas.List.{drop-drop}
use Rattle.std.proofs.lemmas.Str.{IsUtf8-drop, IsCharBoundary-from_drop}
use Rattle.td_tokens.specs.declared.token.TokenKind.{TokenKind}
use Rattle.td_tokens.specs.declared.piece.Piece.{Piece}
use Rattle.td_tokens.specs.Lex.{Text, Spanned, open_after, most_open}
use Rattle.td_tokens.specs.Lexer.{lexeme, front, Lexed, piece_then, lexed, reading, open_behind, where_shallow, next_piece}
use Rattle.td_tokens.proofs.Boundaries.{cut_boundary}
use Rattle.td_tokens.proofs.Cuts.{IsCut}
use Rattle.td_tokens.proofs.OneReading.{piece_step}
use Rattle.td_tokens.proofs.Progress.{piece_cut, same_open, stuck}

-- how many bytes stand before what is left
abbrev pub read_of : Text → Text → ℕ
read_of source rest = length source - length rest

pub record IsReadUpTo (source : Text) (depth : ℕ) (rest : Text) : Type 0 where
  pub whole : is_some (reading source) ≡ is_some (lexed 0 depth (read_of source rest) rest)
  pub within : length rest ≤ length source
  pub rest_is : rest ≡ drop (read_of source rest) source
  pub utf8 : IsUtf8 rest
  pub shallow : depth ≤ most_open

pub read_start : (source : Text) → IsUtf8 source → IsReadUpTo source 0 source
read_start source utf8 = let nothing_read : 0 ≡ length source - length source = omega arith in record {
  whole = ap (λ n. is_some (lexed 0 0 n source)) nothing_read;
  within = omega arith;
  rest_is = ap (λ n. drop n source) nothing_read;
  utf8 = utf8;
  shallow = omega arith;
}

some_mapped : {A B : Type 0} (f : A → B) (o : Option A) → is_some (option_map f o) ≡ is_some o
some_mapped f None = refl
some_mapped f (Some x) = refl

none_some : {A : Type 0} {x : A} → None ≡ Some x → ⊥
none_some h = cc

-- ---- one piece more

shallow_found : (deep : Bool) (n d : ℕ) (x : ℕ × ℕ) → cond deep (Some (n, d)) None ≡ Some x → (deep ≡ true) × ((n, d) ≡ x)
shallow_found true n d x h = (refl, cc)
shallow_found false n d x h = absurd (none_some h)

piece_of : (depth : ℕ) (o : Option Piece) (x : ℕ × ℕ) → option_and_then (λ (p : Piece). where_shallow (open_behind depth p.kind) p.length) o ≡ Some x
    → (p : Piece) × (o ≡ Some p) × (nat_le (open_behind depth p.kind) most_open ≡ true) × ((p.length, open_behind depth p.kind) ≡ x)
piece_of depth None x h = absurd (none_some h)
piece_of depth (Some p) x h = let s = shallow_found (nat_le (open_behind depth p.kind) most_open) p.length (open_behind depth p.kind) x h in (p, refl, s.0, s.1)

later_some : (more : ℕ → Lexed) (depth at : ℕ) (bs : Text) (o : Option TokenKind) (n : ℕ) → nat_le (open_behind depth o) most_open ≡ true
    → is_some (piece_then more depth at bs o n) ≡ is_some (more (open_behind depth o))
later_some more depth at bs None n fits = refl
later_some more depth at bs (Some k) n fits =
    let t : Spanned = record { lexeme = lexeme k (take n bs); start = at; end = at + n } in
    ap (λ d. is_some (cond (nat_le d most_open) (option_map (λ us. t ∷ us) (more d)) None)) (same_open depth k (take n bs))
    ∙ rw fits (some_mapped (λ us. t ∷ us) (more (open_after depth (lexeme k []))))

module _ {source : Text} {depth : ℕ} {rest : Text} (read : IsReadUpTo source depth rest) (x : ℕ × ℕ) (is : next_piece depth rest ≡ Some x) where
  found : (p : Piece) × (front rest ≡ Some p) × (nat_le (open_behind depth p.kind) most_open ≡ true) × ((p.length, open_behind depth p.kind) ≡ x)
  unfolding next_piece
  found = piece_of depth (front rest) x is

  cut : IsCut rest x.0
  cut = subst (IsCut rest) (ap (λ (y : ℕ × ℕ). y.0) found.3) (piece_cut rest found.0 found.1)

  pub boundary : IsCharBoundary rest x.0
  boundary = cut_boundary rest x.0 read.utf8 cut

  pub moves : (0 < x.0) × (x.0 ≤ length rest)
  moves = let e = cut.length_is in let h = cut.within in (omega arith, omega arith)

  pub shallow : x.1 ≤ most_open
  shallow = let e : open_behind depth found.0.kind ≡ x.1 = ap (λ (y : ℕ × ℕ). y.1) found.3 in let h = found.2 in grind (arith, nat_tests)

  step : is_some (lexed 0 depth (read_of source rest) rest) ≡ is_some (lexed 0 x.1 (read_of source rest + x.0) (drop x.0 rest))
  step =
      ap is_some (piece_step rest depth (read_of source rest) found.0 (piece_cut rest found.0 found.1) found.1)
      ∙ later_some (λ d. lexed 0 d (read_of source rest + found.0.length) (drop found.0.length rest)) depth (read_of source rest) rest found.0.kind found.0.length found.2
      ∙ ap (λ (y : ℕ × ℕ). is_some (lexed 0 y.1 (read_of source rest + y.0) (drop y.0 rest))) found.3

  pub read_more : IsReadUpTo source x.1 (drop x.0 rest)
  read_more =
      let within = read.within in let m = moves in let e = length-drop x.0 rest in
      let place : read_of source rest + x.0 ≡ read_of source (drop x.0 rest) = omega arith in
      record {
        whole = read.whole ∙ step ∙ ap (λ n. is_some (lexed 0 x.1 n (drop x.0 rest))) place;
        within = omega arith;
        rest_is = ap (drop x.0) read.rest_is ∙ drop-drop x.0 (read_of source rest) source ∙ ap (λ n. drop n source) place;
        utf8 = IsUtf8-drop rest x.0 read.utf8 boundary;
        shallow = shallow;
      }

-- ---- no piece more

not_shallow : (deep : Bool) (x : ℕ × ℕ) → cond deep (Some x) None ≡ None → deep ≡ false
not_shallow true x h = absurd (none_some (sym h))
not_shallow false x h = refl

later_none : (more : ℕ → Lexed) (depth at : ℕ) (bs : Text) (o : Option TokenKind) (n : ℕ) → depth ≤ most_open → nat_le (open_behind depth o) most_open ≡ false
    → is_some (piece_then more depth at bs o n) ≡ false
later_none more depth at bs None n h deep = absurd (grind (arith, nat_tests))
later_none more depth at bs (Some k) n h deep =
    let t : Spanned = record { lexeme = lexeme k (take n bs); start = at; end = at + n } in
    ap (λ d. is_some (cond (nat_le d most_open) (option_map (λ us. t ∷ us) (more d)) None)) (same_open depth k (take n bs))
    ∙ rw deep refl

none_left : (depth at : ℕ) (bs : Text) (o : Option Piece) → front bs ≡ o → 0 < length bs → depth ≤ most_open
    → option_and_then (λ (p : Piece). where_shallow (open_behind depth p.kind) p.length) o ≡ None → is_some (lexed 0 depth at bs) ≡ false
none_left depth at bs None is nonempty h none = ap is_some (stuck depth at bs nonempty is)
none_left depth at bs (Some p) is nonempty h none =
    ap is_some (piece_step bs depth at p (piece_cut bs p is) is)
    ∙ later_none (λ d. lexed 0 d (at + p.length) (drop p.length bs)) depth at bs p.kind p.length h (not_shallow (nat_le (open_behind depth p.kind) most_open) (p.length, open_behind depth p.kind) none)

ended : (depth at : ℕ) (rest : Text) → depth ≤ most_open → next_piece depth rest ≡ None → is_some (lexed 0 depth at rest) ≡ (length rest == 0)
unfolding lexed next_piece
ended depth at [] h none = refl
ended depth at (b ∷ bs) h none = none_left depth at (b ∷ bs) (front (b ∷ bs)) refl (omega arith) h none ∙ (let e : (length (b ∷ bs) == 0) ≡ false = grind (arith, nat_tests) in sym e)

pub read_to_end : (source : Text) (depth : ℕ) (rest : Text) → IsReadUpTo source depth rest → next_piece depth rest ≡ None → is_some (reading source) ≡ (length source - length rest == length source)
read_to_end source depth rest read none =
    let within = read.within in
    let same : (length rest == 0) ≡ (length source - length rest == length source) = grind (arith, nat_tests) in
    read.whole ∙ ended depth (read_of source rest) rest read.shallow none ∙ same

pub end_boundary : (source : Text) (depth : ℕ) (rest : Text) → IsReadUpTo source depth rest → IsCharBoundary source (length source - length rest)
end_boundary source depth rest read = IsCharBoundary-from_drop source (read_of source rest) (omega arith) (subst IsUtf8 read.rest_is read.utf8)
