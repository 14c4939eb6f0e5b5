-- The order of tuples of one heading: their names are equal, so their values alone decide.
use Rattle.std.specs.Prelude.{◌≡◌, List, []}
use Rattle.std.specs.List.{All}
use Rattle.std.specs.declared.cmp.Ordering.{Ordering}
use Rattle.td_values.specs.Data.{Datum, boolean, integer, char, user, tuple, relation, no_fields, Attrs, no_attrs, attr, Tuples, no_tuples, next_tuple}
use Rattle.td_values.specs.Order.{attrs_order}
use Rattle.td_values.specs.Whole.{heading_of}

-- a value without the names that its type gives: with empty names, and relations with no heading
abbrev mutual
  pub bare : Datum → Datum
  bare (boolean b) = boolean b
  bare (integer n) = integer n
  bare (char s) = char s
  bare (user p is) = user (record { ty = []; name = p.name }) is
  bare (tuple t) = tuple (bare_tuple t)
  bare (relation h ts) = relation no_fields (bare_tuples ts)

  pub bare_tuple : Attrs → Attrs
  bare_tuple no_attrs = no_attrs
  bare_tuple (attr n d t) = attr [] (bare d) (bare_tuple t)

  pub bare_tuples : Tuples → Tuples
  bare_tuples no_tuples = no_tuples
  bare_tuples (next_tuple t ts) = next_tuple (bare_tuple t) (bare_tuples ts)

-- tuples by their values alone, in name order; on tuples of one heading it is their order (`AlikeByValues`)
abbrev pub values_order : Attrs → Attrs → Ordering
values_order s t = attrs_order (bare_tuple s) (bare_tuple t)

-- each two of the tuples have one heading
abbrev pub AreAlike : List Attrs → Type 0
AreAlike ts = All (λ t. All (λ u. heading_of t ≡ heading_of u) ts) ts
