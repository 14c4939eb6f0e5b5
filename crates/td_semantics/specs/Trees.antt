-- What the tree of an expression means where all that a catalogue defines is there, given what the base relvars have.
use Rattle.std.specs.Prelude.{◌≡◌, ℕ, suc, true, List, [], ◌∷◌, Some, Result, slice_get}
use Rattle.std.specs.List.{filter_map}
use Rattle.td_values.specs.Data.{Datum, Attrs}
use Rattle.td_values.specs.Headings.{Header}
use Rattle.td_syntax.specs.declared.tree.Named.{Named}
use Rattle.td_typed_trees.specs.declared.expression.Expression.{Expression}
use Rattle.td_typed_trees.specs.declared.tree.Typed.{Typed}
use Rattle.td_algebra.specs.declared.errors.Stop.{Stop}
use Rattle.td_headings.specs.Catalogues.{CatalogueData}
use Rattle.td_headings.specs.Expressions.{HasAllUnder, IsTree, no_tuple, selector_at, virtual_at}
use Rattle.td_headings.specs.Reached.{is_base}
use Rattle.td_meaning.specs.Mean.{Relvars, Selection, mean, within}
use Rattle.td_meaning.specs.Selections.{selection}
use Rattle.td_type_soundness.specs.Meanings.{GivesRelation}
use Rattle.td_semantics.specs.Meanings.{no_names, with_virtuals}

-- the places of a list, from n on
abbrev pub places_from : {A : Type 0} → ℕ → List A → List ℕ
places_from n [] = []
places_from n (x ∷ xs) = n ∷ places_from (suc n) xs

abbrev pub places : {A : Type 0} → List A → List ℕ
places xs = places_from 0 xs

-- all selectors, and all virtual relvars
abbrev pub selection_of : CatalogueData → Selection
selection_of c = selection (filter_map (selector_at c) (places c.schema.possreps))

abbrev pub all_relvars : CatalogueData → Relvars → Relvars
all_relvars c relvars = with_virtuals (selection_of c) (filter_map (virtual_at c) (places c.origins)) relvars

abbrev pub tree_means : CatalogueData → Relvars → Typed → Attrs → Result Datum Stop
tree_means c relvars u t = mean (all_relvars c relvars) (selection_of c) u (within t no_names)

-- each base relvar has a relation of its heading
abbrev pub AreBases : CatalogueData → Relvars → Type 0
AreBases c relvars = (n : ℕ) (v : Named Header) → is_base (slice_get c.origins n) ≡ true → slice_get c.schema.relvars n ≡ Some v → GivesRelation c.schema v.value (relvars n)

-- x is an expression of the catalogue, in which no tuple is in scope
pub record IsIn (c : CatalogueData) (x : Expression) : Type 0 where
  pub tree : IsTree c no_tuple x.tree x.kind
  pub attributes : x.attributes ≡ no_tuple
  pub under : HasAllUnder c x
