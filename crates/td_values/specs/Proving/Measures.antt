-- How large a type and a value are.
use Rattle.std.specs.Prelude.{ℕ, ◌+◌}
use Rattle.td_values.specs.Data.{Ty, boolean_type, integer_type, char_type, user_type, tuple_type, relation_type, Fields, no_fields, field, Datum, boolean, integer, char, user, tuple, relation, Items, no_items, item, Attrs, no_attrs, attr, Tuples, no_tuples, next_tuple}

-- how large a type is: each part is smaller than the whole
abbrev mutual
  pub ty_size : Ty → ℕ
  ty_size boolean_type = 1
  ty_size integer_type = 1
  ty_size char_type = 1
  ty_size (user_type n) = 1
  ty_size (tuple_type fs) = 1 + fields_size fs
  ty_size (relation_type fs) = 1 + fields_size fs

  pub fields_size : Fields → ℕ
  fields_size no_fields = 1
  fields_size (field n t fs) = 1 + (ty_size t + fields_size fs)

-- and a value, whose names and headings do not count
abbrev mutual
  pub datum_size : Datum → ℕ
  datum_size (boolean b) = 1
  datum_size (integer n) = 1
  datum_size (char s) = 1
  datum_size (user p is) = 1 + items_size is
  datum_size (tuple as') = 1 + attrs_size as'
  datum_size (relation h ts) = 1 + tuples_size ts

  pub items_size : Items → ℕ
  items_size no_items = 1
  items_size (item d is) = 1 + (datum_size d + items_size is)

  pub attrs_size : Attrs → ℕ
  attrs_size no_attrs = 1
  attrs_size (attr n d as') = 1 + (datum_size d + attrs_size as')

  pub tuples_size : Tuples → ℕ
  tuples_size no_tuples = 1
  tuples_size (next_tuple t ts) = 1 + (attrs_size t + tuples_size ts)
