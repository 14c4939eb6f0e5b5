-- A selector that is sought by its place.
use Rattle.std.specs.Prelude.{◌≡◌, ◌≤◌, ◌+◌, ◌*◌, ℕ, List, Err}
use Rattle.td_values.specs.Data.{Datum}
use Rattle.td_typed_trees.specs.declared.expression.Selector.{Selector}
use Rattle.td_algebra.specs.declared.errors.Stop.TheVariants.{Untyped}
use Rattle.td_meaning.specs.ForProofs.Levels.{limit_levels, weight}
use Rattle.td_meaning.specs.Selections.{selected, selection}

abbrev pub IsNowhere : List Selector → ℕ → Type 0
IsNowhere ss n = (ds : List Datum) → selection ss n ds ≡ Err Untyped

-- s makes what is selected at the place, and those before it weigh less by it
pub record IsFound (ss : List Selector) (n : ℕ) (earlier : List Selector) (s : Selector) : Type 0 where
  pub makes : (ds : List Datum) → selection ss n ds ≡ selected (selection earlier) s ds
  pub lighter : weight earlier + (12 * limit_levels s.limit + 4) ≤ weight ss

-- what is selected at the place is selected among the first ones
pub record IsRest (ss : List Selector) (n : ℕ) (rest : List Selector) : Type 0 where
  pub same : (ds : List Datum) → selection ss n ds ≡ selection rest n ds
  pub lighter : weight rest ≤ weight ss
