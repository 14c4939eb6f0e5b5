-- Which base relvars the constraints of a catalogue read, as far as two places tell it.
use Rattle.std.specs.Prelude.{◌≡◌, ◌==◌, ◌||◌, ℕ, Bool, true, List, Option, None, Some, length, slice_get}
use Rattle.std.specs.List.{Contains}
use Rattle.td_typed_trees.specs.declared.expression.Expression.{Expression}
use Rattle.td_typed_trees.specs.declared.tree.Typed.{Typed}
use Rattle.td_headings.specs.Catalogues.{CatalogueData}
use Rattle.td_headings.specs.Expressions.{constraint_at, reads}
use Rattle.td_headings.specs.Reached.{ReadsRelvar}
use Rattle.td_headings.specs.declared.relvars_read.RelvarsRead.{RelvarsRead}
use Rattle.td_headings.specs.declared.relvars_read.RelvarsRead.TheVariants.{Among, Many}

-- whether the relvar may be one of them
abbrev pub may_be : RelvarsRead → ℕ → Bool
may_be (Among m k) n = (n == m) || (n == k)
may_be Many n = true

-- it is so of what the expression reads, or of all where there is none
abbrev pub TellsReads : Option Expression → RelvarsRead → Type 0
TellsReads None y = (n : ℕ) → may_be y n ≡ true
TellsReads (Some x) y = (n : ℕ) → Contains (reads x) n → may_be y n ≡ true

-- it is so of each of the expressions
pub record AreTold (xs : List (Option Expression)) (ys : List RelvarsRead) : Type 0 where
  pub many : length ys ≡ length xs
  pub told : (k : ℕ) (x : Option Expression) (y : RelvarsRead) → slice_get xs k ≡ Some x → slice_get ys k ≡ Some y → TellsReads x y

-- it is so of each of the catalogue's constraints
abbrev pub AreToldOf : CatalogueData → List RelvarsRead → Type 0
AreToldOf c ys = (k : ℕ) (y : RelvarsRead) → slice_get ys k ≡ Some y → (u : Typed) → constraint_at c k ≡ Some u → (n : ℕ) → ReadsRelvar c.origins u n → may_be y n ≡ true
