-- The texts of a tuple's values.
use Rattle.std.proofs.Common.{◌≡◌, ◌≤◌, ℕ, List, [], ◌∷◌, length, map, take, refl, ap, ◌∙◌}
use Rattle.std.proofs.lemmas.List.{take_all}
use Rattle.td_values.specs.Data.{Datum, attrs_of}
use Rattle.td_listings.specs.Tables.{cell, cells}

cells_are : (as' : List (List ℕ × Datum)) → map (λ a. cell a.1) as' ≡ cells (attrs_of as')
cells_are [] = refl
cells_are (a ∷ as') = ap (λ t. cell a.1 ∷ t) (cells_are as')

pub all_cells : (as' : List (List ℕ × Datum)) (n : ℕ) → length as' ≤ n → map (λ a. cell a.1) (take n as') ≡ cells (attrs_of as')
all_cells as' n past = ap (map (λ a. cell a.1)) (take_all n as' past) ∙ cells_are as'
