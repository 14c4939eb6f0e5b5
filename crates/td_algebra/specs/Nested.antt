-- Operators that put relations and tuples into attributes, and take them out: which tuples their results have.
use Rattle.std.specs.Prelude.{◌≡◌, ℕ, List, [], ◌∷◌, Some}
use Rattle.std.specs.List.{Contains}
use Rattle.td_values.specs.Attributes.{attribute_of}
use Rattle.td_values.specs.Data.{Fields, Datum, tuple, relation, Attrs, Tuples, no_tuples, next_tuple, tuples_of}
use Rattle.td_values.specs.Headings.{header_fields}
use Rattle.td_values.specs.Rows.{RowsData}
use Rattle.td_relations.specs.Sets.{Has, IsRelationOf}
use Rattle.td_tuples.specs.Parts.{cut, cut_off, columns_in}
use Rattle.td_tuples.specs.Unions.{beside, with_attribute}

-- ---- group and wrap
-- the relation as a value
abbrev pub relation_value : RowsData → Datum
relation_value g = relation (header_fields g.heading) (tuples_of g.tuples)

-- the t|X with t in r and t|Y = v, where Y is the other names
abbrev pub InGroup : List (List ℕ) → RowsData → Attrs → Attrs → Type 0
InGroup names r v w = (t : Attrs) × (Has r t) × (cut_off names t ≡ v) × (w ≡ cut names t)

-- u is v with C = the set of these
abbrev pub WithGroup : List (List ℕ) → List ℕ → RowsData → Attrs → Attrs → Type 0
WithGroup names c r v u = (g : RowsData) × (IsRelationOf (columns_in names r.heading) (InGroup names r v) g) × (u ≡ with_attribute c (relation_value g) v)

-- for each v in the projection on Y, v with its group
abbrev pub Grouped : List (List ℕ) → List ℕ → RowsData → Attrs → Type 0
Grouped names c r u = (t : Attrs) × (Has r t) × (WithGroup names c r (cut_off names t) u)

-- each t|Y with C = t|X, t in r
abbrev pub Wrapped : List (List ℕ) → List ℕ → RowsData → Attrs → Type 0
Wrapped names c r u = (t : Attrs) × (Has r t) × (u ≡ with_attribute c (tuple (cut names t)) (cut_off names t))

-- ---- ungroup and unwrap
abbrev pub tuple_list : Tuples → List Attrs
tuple_list no_tuples = []
tuple_list (next_tuple t ts) = t ∷ tuple_list ts

-- each tuple made of t|Y and a tuple of t's C, t in r, where Y is the other names
abbrev pub Ungrouped : List ℕ → RowsData → Attrs → Type 0
Ungrouped c r u = (t : Attrs) × (Has r t) × (h : Fields) × (ts : Tuples) × (attribute_of c t ≡ Some (relation h ts)) × (w : Attrs) × (Contains (tuple_list ts) w) × (u ≡ beside (cut_off (c ∷ []) t) w)

-- each tuple made of t|Y and t's C, t in r
abbrev pub Unwrapped : List ℕ → RowsData → Attrs → Type 0
Unwrapped c r u = (t : Attrs) × (Has r t) × (w : Attrs) × (attribute_of c t ≡ Some (tuple w)) × (u ≡ beside (cut_off (c ∷ []) t) w)
