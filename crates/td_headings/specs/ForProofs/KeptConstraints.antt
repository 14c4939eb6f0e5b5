-- Expressions that a catalogue keeps, so that they are not made again.
use Rattle.std.specs.Prelude.{◌≡◌, ℕ, List, Option, Some, slice_get}
use Rattle.td_typed_trees.specs.declared.expression.Expression.{Expression}
use Rattle.td_headings.specs.Catalogues.{CatalogueData}
use Rattle.td_headings.specs.Expressions.{IsConstraint, constraint_at}

-- each is the expression of the constraint at its place among the tests
abbrev pub AreKept : CatalogueData → List (Option Expression) → Type 0
AreKept c xs = (n : ℕ) (x : Expression) → slice_get xs n ≡ Some (Some x) → IsConstraint c (constraint_at c n) x
