-- What evaluating an expression comes to: the relvars that it names, with those under its virtual relvars; and the
-- possreps that are selected in it and in these virtual relvars, with those in the CONSTRAINTs of possreps that are
-- selected.
use Rattle.std.specs.Prelude.{◌≡◌, ◌↔◌, ◌++◌, ℕ, Bool, true, false, List, [], map, Option, None, Some, slice_get}
use Rattle.std.specs.List.{Contains, flat_map}
use Rattle.std.specs.List.Sorted.{IsStrictlySortedBy}
use Rattle.std.specs.Ordering.{nat_cmp}
use Rattle.td_graph.specs.Links.{ReachedFrom}
use Rattle.td_typed_trees.specs.Mentions.{mentioned, relvars_in, possreps_in}
use Rattle.td_typed_trees.specs.declared.tree.Typed.{Typed}
use Rattle.td_headings.specs.declared.defined.Origin.{Origin}
use Rattle.td_headings.specs.declared.defined.Origin.TheVariants as origin

-- the relvars and the possreps that an expression names, by their places
abbrev pub named_relvars : Typed → List ℕ
named_relvars u = relvars_in (mentioned u)

abbrev pub named_possreps : Typed → List ℕ
named_possreps u = possreps_in (mentioned u)

-- those in the expression of a virtual relvar
abbrev pub relvars_of_origin : Origin → List ℕ
relvars_of_origin (origin.Base ks u) = []
relvars_of_origin (origin.Virtual u) = named_relvars u

abbrev pub possreps_under : Option Origin → List ℕ
possreps_under (Some (origin.Virtual u)) = named_possreps u
possreps_under _ = []

-- those in the CONSTRAINT of a possrep
abbrev pub possreps_within : Option Typed → List ℕ
possreps_within None = []
possreps_within (Some u) = named_possreps u

-- the relvar at this place is named in the expression, or in that of a virtual relvar which is reached
abbrev pub IsReached : List Origin → Typed → ℕ → Type 0
IsReached origins u n = ReachedFrom (map relvars_of_origin origins) (named_relvars u) n

-- the relvar at this place is a base relvar
abbrev pub is_base : Option Origin → Bool
is_base (Some (origin.Base ks u)) = true
is_base _ = false

-- the expression reads the base relvar at this place: it names it, or one of the virtual relvars that it reaches does
abbrev pub ReadsRelvar : List Origin → Typed → ℕ → Type 0
ReadsRelvar origins u n = IsReached origins u n × (is_base (slice_get origins n) ≡ true)

-- the possrep at this place is selected in the expression, in one of the relvars that it reaches, or in the CONSTRAINT
-- of a possrep that is selected
abbrev pub IsSelected : List Origin → List (Option Typed) → Typed → List ℕ → ℕ → Type 0
IsSelected origins limits u relvars n = ReachedFrom (map possreps_within limits) (named_possreps u ++ flat_map (λ m. possreps_under (slice_get origins m)) relvars) n

-- the places with the property, ascending
pub record AreThose (P : ℕ → Type 0) (places : List ℕ) : Type 0 where
  pub members : (n : ℕ) → Contains places n ↔ P n
  pub ascending : IsStrictlySortedBy nat_cmp places
