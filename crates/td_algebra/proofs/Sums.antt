-- A sum along a list.
use Rattle.std.proofs.Common.{◌≡◌, ℤ, ◌+ℤ◌, sym, ap, ◌∙◌}
use Rattle.std.proofs.Math.IntN.{+ℤ_assoc}

-- one more place: d there, w after it
pub sum_more : (s' s n d w rest all : ℤ) → s' ≡ s +ℤ n → n ≡ d → rest ≡ d +ℤ w → s +ℤ rest ≡ all → s' +ℤ w ≡ all
sum_more s' s n d w rest all step same split so =
    ap (λ x. x +ℤ w) (step ∙ ap (λ x. s +ℤ x) same) ∙ +ℤ_assoc s d w ∙ sym (ap (λ x. s +ℤ x) split) ∙ so
