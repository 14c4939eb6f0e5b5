-- The values of what is defined: a user value has the possrep of its type, with components of that possrep's types; a
-- tuple has a heading, and the tuples of a relation have its.
use Rattle.std.specs.Prelude.{◌≡◌, ℕ, map, Some}
use Rattle.td_values.specs.Data.{Fields, PossrepData, Datum, boolean, integer, char, user, tuple, relation, Items, no_items, item, Attrs, no_attrs, attr, Tuples, no_tuples, next_tuple}
use Rattle.td_values.specs.Headings.{Header, header_fields}
use Rattle.td_values.specs.View.{ty_of}
use Rattle.td_values.specs.Whole.{type_of, heading_of}
use Rattle.td_schema.specs.declared.schema.Representation.{Representation}
use Rattle.td_schema.specs.Schemas.{SchemaData, type_named}
use Rattle.td_typing.specs.Trees.{component_kinds}
use Rattle.td_operators.specs.Values.{item_list}

-- the fields are those of a heading: distinct names, in order
abbrev pub AreColumns : Fields → Type 0
AreColumns fs = (h : Header) × (fs ≡ header_fields h)

-- components of the types of a possrep
abbrev pub AreComponentsOf : Representation → Items → Type 0
AreComponentsOf r is = map type_of (item_list is) ≡ map ty_of (component_kinds r)

-- the possrep of its type, with components of its types
abbrev pub HasPossrep : SchemaData → PossrepData → Items → Type 0
HasPossrep s p is = (n : ℕ) × (r : Representation) × (type_named s p.ty ≡ Some (n, r)) × (r.possrep ≡ p) × AreComponentsOf r is

abbrev mutual
  pub IsValue : SchemaData → Datum → Type 0
  IsValue s (boolean b) = Unit {0}
  IsValue s (integer n) = Unit {0}
  IsValue s (char x) = Unit {0}
  IsValue s (user p is) = HasPossrep s p is × AreValues s is
  IsValue s (tuple t) = AreColumns (heading_of t) × AreAttributes s t
  IsValue s (relation fs ts) = AreColumns fs × AreTuples s fs ts

  pub AreValues : SchemaData → Items → Type 0
  AreValues s no_items = Unit {0}
  AreValues s (item d is) = IsValue s d × AreValues s is

  pub AreAttributes : SchemaData → Attrs → Type 0
  AreAttributes s no_attrs = Unit {0}
  AreAttributes s (attr n d t) = IsValue s d × AreAttributes s t

  pub AreTuples : SchemaData → Fields → Tuples → Type 0
  AreTuples s fs no_tuples = Unit {0}
  AreTuples s fs (next_tuple t ts) = (heading_of t ≡ fs) × AreAttributes s t × AreTuples s fs ts
