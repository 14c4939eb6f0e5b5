-- What ungroup and unwrap share: tuples made of the other attributes and a tuple of the value at a name.
use Rattle.std.specs.Prelude.{◌≡◌, ℕ, List, [], ◌∷◌, map, Option, None, Some}
use Rattle.std.specs.List.{Contains}
use Rattle.td_values.specs.Attributes.{attribute_of}
use Rattle.td_values.specs.Data.{Datum, tuple, relation, Attrs}
use Rattle.td_values.specs.Rows.{RowsData}
use Rattle.td_relations.specs.Sets.{Has}
use Rattle.td_tuples.specs.Parts.{cut, cut_off}
use Rattle.td_tuples.specs.Unions.{beside}
use Rattle.td_algebra.specs.Nested.{tuple_list}

-- the tuples of a relation, and a tuple itself
abbrev pub tuples_in : Datum → List Attrs
tuples_in (tuple t) = t ∷ []
tuples_in (relation h ts) = tuple_list ts
tuples_in d = []

abbrev pub tuples_inside : Option Datum → List Attrs
tuples_inside None = []
tuples_inside (Some d) = tuples_in d

-- those of t's value at the name c
abbrev pub tuples_at : List ℕ → Attrs → List Attrs
tuples_at c t = tuples_inside (attribute_of c t)

-- t's part at the names, beside each of them
abbrev pub opened : List (List ℕ) → List ℕ → Attrs → List Attrs
opened names c t = map (beside (cut names t)) (tuples_at c t)

-- each tuple made of t without C and a tuple of t's C, t in r
abbrev pub Opened : List ℕ → RowsData → Attrs → Type 0
Opened c r u = (t : Attrs) × (Has r t) × (w : Attrs) × (Contains (tuples_at c t) w) × (u ≡ beside (cut_off (c ∷ []) t) w)
