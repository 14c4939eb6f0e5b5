-- The texts of types and values.
use Rattle.std.specs.Prelude.{ℕ, ℤ, true, false, List, [], ◌∷◌, ◌++◌, codes, ◌==◌, if◌then◌else◌, negsuc, encode_utf8_all}
use Rattle.std.specs.Str.{chars}
use Rattle.std.specs.Fmt.{signed_decimal}
use Rattle.std.specs.Ordering.{int_eq}
use Rattle.td_values.specs.Data.{Ty, boolean_type, integer_type, char_type, user_type, tuple_type, relation_type, Fields, no_fields, field, Datum, boolean, integer, char, user, tuple, relation, Items, no_items, item, Attrs, no_attrs, attr, Tuples, no_tuples, next_tuple}

-- a quote is doubled
abbrev pub doubled : List ℕ → List ℕ
doubled [] = []
doubled (c ∷ cs) = (if c == 39 then 39 ∷ 39 ∷ [] else c ∷ []) ++ doubled cs

-- a text as a literal: its characters between quotes
abbrev pub quoted : List ℕ → List ℕ
quoted s = codes "'" ++ encode_utf8_all (doubled (chars s)) ++ codes "'"

-- an integer; the least one has no literal of its own
abbrev pub literal : ℤ → List ℕ
literal n = if int_eq n (negsuc 9223372036854775807) then codes "(-9223372036854775807 - 1)" else signed_decimal n

-- texts, with another one between each two
abbrev pub joined_by : List ℕ → List (List ℕ) → List ℕ
joined_by between [] = []
joined_by between (t ∷ []) = t
joined_by between (t ∷ u ∷ us) = t ++ between ++ joined_by between (u ∷ us)

-- items between two brackets: a comma between each two, and a space inside
abbrev pub enclosed : List ℕ → List ℕ → List (List ℕ) → List ℕ
enclosed left right [] = left ++ codes " " ++ right
enclosed left right items = left ++ codes " " ++ joined_by (codes ", ") items ++ codes " " ++ right

abbrev pub braced : List (List ℕ) → List ℕ
braced = enclosed (codes "{") (codes "}")

-- a type: a heading is a brace of names with types, in name order
abbrev mutual
  pub shown_type : Ty → List ℕ
  shown_type boolean_type = codes "BOOLEAN"
  shown_type integer_type = codes "INTEGER"
  shown_type char_type = codes "CHAR"
  shown_type (user_type n) = n
  shown_type (tuple_type fs) = codes "TUPLE " ++ braced (shown_fields fs)
  shown_type (relation_type fs) = codes "RELATION " ++ braced (shown_fields fs)

  pub shown_fields : Fields → List (List ℕ)
  shown_fields no_fields = []
  shown_fields (field n t fs) = (n ++ codes " " ++ shown_type t) ∷ shown_fields fs

-- a value: user values by their possible representation's name and components, tuples as a brace of names with values,
-- relations by heading and tuples
abbrev mutual
  pub shown : Datum → List ℕ
  shown (boolean true) = codes "TRUE"
  shown (boolean false) = codes "FALSE"
  shown (integer n) = literal n
  shown (char s) = quoted s
  shown (user p is) = p.name ++ codes " " ++ enclosed (codes "(") (codes ")") (shown_items is)
  shown (tuple as') = codes "TUPLE " ++ braced (shown_attrs as')
  shown (relation h ts) = codes "RELATION " ++ braced (shown_fields h) ++ codes " " ++ braced (shown_tuples ts)

  pub shown_items : Items → List (List ℕ)
  shown_items no_items = []
  shown_items (item d is) = shown d ∷ shown_items is

  pub shown_attrs : Attrs → List (List ℕ)
  shown_attrs no_attrs = []
  shown_attrs (attr n d as') = (n ++ codes " " ++ shown d) ∷ shown_attrs as'

  pub shown_tuples : Tuples → List (List ℕ)
  shown_tuples no_tuples = []
  shown_tuples (next_tuple t ts) = (codes "TUPLE " ++ braced (shown_attrs t)) ∷ shown_tuples ts
