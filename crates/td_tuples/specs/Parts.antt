-- Tuples and headings by name, and their parts (Date and Darwen, The Third Manifesto).
use Rattle.std.specs.Prelude.{◌≡◌, ℕ, Bool, not, List, [], ◌∷◌, if◌then◌else◌}
use Rattle.std.specs.FinMap as by_name
use Rattle.std.specs.List.{list_any}
use Rattle.std.specs.Ordering.{eq_by_cmp}
use Rattle.td_values.specs.Data.{Datum, Attrs, no_attrs, attr}
use Rattle.td_values.specs.Headings.{Header, header_fields}
use Rattle.td_values.specs.Order.{text_cmp}
use Rattle.td_values.specs.Whole.{heading_of}

-- the tuple's names with their values, in name order
abbrev pub attributes : Attrs → List (List ℕ × Datum)
attributes no_attrs = []
attributes (attr n d t) = (n, d) ∷ attributes t

-- the names of a heading, in order
abbrev pub names_of : Header → List (List ℕ)
names_of h = by_name.keys h

-- the tuple's names are the heading's, and its values have the heading's types
abbrev pub Fits : Header → Attrs → Type 0
Fits h t = heading_of t ≡ header_fields h

-- the name is one of these
abbrev pub is_in : List (List ℕ) → List ℕ → Bool
is_in names n = list_any (eq_by_cmp text_cmp n) names

-- it is none of these
abbrev pub is_out : List (List ℕ) → List ℕ → Bool
is_out names n = not (is_in names n)

-- the attributes whose names pass the test
abbrev pub where_name : (List ℕ → Bool) → Attrs → Attrs
where_name p no_attrs = no_attrs
where_name p (attr n d t) = if p n then attr n d (where_name p t) else where_name p t

-- t|X: the attributes at the names X, and those at the other names
abbrev pub cut : List (List ℕ) → Attrs → Attrs
cut names t = where_name (is_in names) t

abbrev pub cut_off : List (List ℕ) → Attrs → Attrs
cut_off names t = where_name (is_out names) t

-- the attributes of a heading at the names X, and those at the other names
abbrev pub columns_in : List (List ℕ) → Header → Header
columns_in names h = by_name.retain_keys h (is_in names)

abbrev pub columns_out : List (List ℕ) → Header → Header
columns_out names h = by_name.retain_keys h (is_out names)
