-- The place of a name among entries in name order.
use Rattle.std.specs.Prelude.{◌≡◌, ℕ, ◌<◌, ◌≤◌, List, length, slice_index_or, insert, None, Some}
use Rattle.std.specs.FinMap as map
use Rattle.td_values.specs.Order.{text_cmp}

-- the entry of the name stands at place i
pub record IsPlaceOf {X : Type 0} (es : List (List ℕ × X)) (n : List ℕ) (i : ℕ) : Type 0 where
  pub in_range : i < length es
  pub found : (e : List ℕ × X) → map.find text_cmp n es ≡ Some (slice_index_or es i e).1

-- there is none, and it would go to place i
pub record IsGapFor {X : Type 0} (es : List (List ℕ × X)) (n : List ℕ) (i : ℕ) : Type 0 where
  pub in_range : i ≤ length es
  pub absent : map.find text_cmp n es ≡ None
  pub put : (x : X) → map.put text_cmp n x es ≡ insert es i (n, x)
