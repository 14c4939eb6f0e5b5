-- Selectors, sought from the end.
use Rattle.std.proofs.Common.{◌≡◌, ◌≤◌, ◌+◌, ◌*◌, ◌++◌, ℕ, List, [], ◌∷◌, length, if◌then◌else◌, refl, ap, ◌∙◌, arith, eq-eqb, ne_eqb}
use Rattle.std.proofs.lemmas.List.Sums.{fold_push}
use Rattle.td_values.specs.Data.{Datum}
use Rattle.td_typed_trees.specs.declared.expression.Selector.{Selector}
use Rattle.td_meaning.specs.ForProofs.Found.{IsNowhere, IsFound, IsRest}
use Rattle.td_meaning.specs.ForProofs.Levels.{limit_levels, weight}
use Rattle.td_meaning.specs.Selections.{selected, selection, with_selector, none_selected}

last_selection : (earlier : List Selector) (s : Selector) → selection (earlier ++ s ∷ []) ≡ with_selector (selection earlier) s
last_selection earlier s = fold_push with_selector none_selected earlier s

last_weight : (earlier : List Selector) (s : Selector) → weight (earlier ++ s ∷ []) ≡ weight earlier + (12 * limit_levels s.limit + 4)
last_weight [] s = omega arith
last_weight (t ∷ earlier) s = omega (arith, last_weight earlier s)

pub begins : (ss : List Selector) (n : ℕ) → IsRest ss n ss
begins ss n = record { same = λ ds. refl; lighter = omega arith }

module _ (ss rest earlier : List Selector) (n : ℕ) (s : Selector) (so_far : IsRest ss n rest) (is : rest ≡ earlier ++ s ∷ []) where
  heavier : weight earlier + (12 * limit_levels s.limit + 4) ≤ weight ss
  heavier = omega (arith, so_far.lighter, ap weight is, last_weight earlier s)

  one : (ds : List Datum) → selection ss n ds ≡ with_selector (selection earlier) s n ds
  one ds = so_far.same ds ∙ ap (λ ts. selection ts n ds) is ∙ ap (λ f. f n ds) (last_selection earlier s)

  pub found : s.place ≡ n → IsFound ss n earlier s
  found here = record {
    makes = λ ds. one ds ∙ ap (λ b. if b then selected (selection earlier) s ds else selection earlier n ds) (eq-eqb s.place n here);
    lighter = heavier;
  }

  pub passed : (s.place ≡ n → ⊥) → IsRest ss n earlier
  passed apart = record {
    same = λ ds. one ds ∙ ap (λ b. if b then selected (selection earlier) s ds else selection earlier n ds) (ne_eqb s.place n apart);
    lighter = omega (arith, heavier);
  }

pub ended : (ss rest : List Selector) (n : ℕ) → IsRest ss n rest → length rest ≡ 0 → IsNowhere ss n
ended ss [] n so_far none = so_far.same
ended ss (s ∷ rest) n so_far none = absurd (omega (arith, none))
