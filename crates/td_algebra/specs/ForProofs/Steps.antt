-- A step of the closure, through a value.
use Rattle.std.specs.Prelude.{◌≡◌, ◌⊎◌, ℕ, Bool, false, List, [], map, Option, Some, None, if◌then◌else◌}
use Rattle.std.specs.Ordering.{eq_by_cmp}
use Rattle.td_values.specs.Attributes.{attribute_of}
use Rattle.td_values.specs.Data.{Datum, Attrs}
use Rattle.td_values.specs.Order.{order}
use Rattle.td_values.specs.Rows.{RowsData}
use Rattle.td_relations.specs.Sets.{Has}
use Rattle.td_tuples.specs.Unions.{with_attribute}
use Rattle.td_algebra.specs.Closures.{pair, HasPair}

-- the pairs of r, and those that go through z
abbrev pub Through : Datum → RowsData → Attrs → Type 0
Through z r w = Has r w ⊎ ((x : Datum) × (y : Datum) × (HasPair r x z) × (HasPair r z y) × (w ≡ pair r.heading x y))

-- the tuple has the value z at the name
abbrev pub is_value : Datum → Option Datum → Bool
is_value z None = false
is_value z (Some d) = eq_by_cmp order d z

abbrev pub has_value : List ℕ → Datum → Attrs → Bool
has_value n z t = is_value z (attribute_of n t)

-- t with u's value at the name
abbrev pub with_value : List ℕ → Attrs → Option Datum → Attrs
with_value n t None = t
with_value n t (Some d) = with_attribute n d t

abbrev pub replaced : List ℕ → Attrs → Attrs → Attrs
replaced n t u = with_value n t (attribute_of n u)

-- where t ends in z: t's start with the end of each of these
abbrev pub links : List ℕ → Datum → List Attrs → Attrs → List Attrs
links n z us t = if has_value n z t then map (replaced n t) us else []
