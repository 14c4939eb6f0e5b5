-- A token begins where a text may be cut.
use Rattle.std.proofs.Common.{◌≡◌, ◌≤◌, ◌+◌, ℕ, List, length, drop, ap, ◌∙◌, subst, arith, length-drop, IsUtf8}
use Rattle.std.specs.List.{AllByRecursion}
use Rattle.std.specs.Str.{IsCharBoundary}
use Rattle.std.proofs.lemmas.List.{drop-drop}
use Rattle.std.proofs.lemmas.Str.{IsUtf8-drop, IsCharBoundary-from_drop}
use Rattle.td_tokens.specs.Lex.{Text, Spanned, IsLexed, ended, skipped, token}
use Rattle.td_tokens.proofs.Boundaries.{cut_boundary}
use Rattle.td_tokens.proofs.Cuts.{IsCut, skipped_cut, front_cut}

-- what is left of the whole text from a place on
pub record IsLeft (whole : Text) (at : ℕ) (bs : Text) : Type 0 where
  pub within : at ≤ length whole
  pub rest_is : bs ≡ drop at whole
  pub utf8 : IsUtf8 bs

after_cut : (whole : Text) (at n : ℕ) (bs : Text) → IsLeft whole at bs → IsCut bs n → IsLeft whole (at + n) (drop n bs)
after_cut whole at n bs left cut =
    let e = cut.length_is in let h = cut.within in let w = left.within in
    let l : length bs ≡ length (drop at whole) = ap length left.rest_is in
    let m = length-drop at whole in
    record {
      within = omega arith;
      rest_is = ap (drop n) left.rest_is ∙ drop-drop n at whole;
      utf8 = IsUtf8-drop bs n left.utf8 (cut_boundary bs n left.utf8 cut);
    }

pub starts_stand : (whole : Text) {at : ℕ} {bs : Text} {ts : List Spanned} → IsLexed at bs ts → IsLeft whole at bs → AllByRecursion (λ (t : Spanned). IsCharBoundary whole t.start) ts
starts_stand whole ended left = tt
starts_stand whole (skipped {at} {n} {bs} {ts} white d) left = starts_stand whole d (after_cut whole at n bs left (skipped_cut white))
starts_stand whole (token {at} {n} {bs} {l} {ts} first d) left =
    (IsCharBoundary-from_drop whole at left.within (subst IsUtf8 left.rest_is left.utf8), starts_stand whole d (after_cut whole at n bs left (front_cut first)))
