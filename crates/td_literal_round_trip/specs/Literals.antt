-- The values whose shown text is an expression: what is to be said of a value of what is defined, and of its text.
use Rattle.std.specs.Prelude.{◌≡◌, ◌≤◌, ℕ, suc, max, negsuc, true, false, if◌then◌else◌, length, Some, Ok}
use Rattle.std.specs.Option.{is_some}
use Rattle.std.specs.Ordering.{int_eq}
use Rattle.std.specs.Str.{IsUtf8}
use Rattle.td_values.specs.Data.{Ty, boolean_type, integer_type, char_type, user_type, tuple_type, relation_type, Fields, no_fields, field, PossrepData, Datum, boolean, integer, char, user, tuple, relation, Items, no_items, item, Attrs, no_attrs, attr, Tuples, no_tuples, next_tuple}
use Rattle.td_values.specs.Shown.{shown}
use Rattle.td_values.specs.Whole.{IsWhole}
use Rattle.td_algebra.specs.Summaries.{in_64_bits}
use Rattle.td_tokens.specs.Laws.{IsWellFormed}
use Rattle.td_tokens.specs.Lex.{name, text, most_open}
use Rattle.td_grammar.specs.Grammar.{query_bytes}
use Rattle.td_schema.specs.declared.schema.Representation.{Representation}
use Rattle.td_schema.specs.Kinds.{Name}
use Rattle.td_schema.specs.Schemas.{SchemaData, begins_with_the, possrep_named, type_named}
use Rattle.td_meaning.specs.Mean.{Selection}
use Rattle.td_operators.specs.Values.{item_list}
use Rattle.td_type_soundness.specs.Values.{AreColumns, IsValue}

-- the shape of a name, and no keyword
abbrev pub IsPlainName : Name → Type 0
IsPlainName n = IsWellFormed (name n)

-- UTF-8, without NUL, line feed and carriage return
abbrev pub IsPlainText : Name → Type 0
IsPlainText x = IsUtf8 x × IsWellFormed (text x)

-- a type whose user types are defined, and whose names are names
abbrev mutual
  pub IsDefined : SchemaData → Ty → Type 0
  IsDefined s boolean_type = Unit {0}
  IsDefined s integer_type = Unit {0}
  IsDefined s char_type = Unit {0}
  IsDefined s (user_type n) = IsPlainName n × (is_some (type_named s n) ≡ true)
  IsDefined s (tuple_type fs) = AreColumns fs × AreDefined s fs
  IsDefined s (relation_type fs) = AreColumns fs × AreDefined s fs

  pub AreDefined : SchemaData → Fields → Type 0
  AreDefined s no_fields = Unit {0}
  AreDefined s (field n t fs) = IsPlainName n × IsDefined s t × AreDefined s fs

-- the possrep of this name is that of its type, and its selector makes the value of the components
pub record HasSelector (s : SchemaData) (selection : Selection) (p : PossrepData) (is : Items) : Type 0 where
  pub place : ℕ
  pub possrep : Representation
  pub by_name : possrep_named s p.name ≡ Some (place, possrep)
  pub by_type : type_named s p.ty ≡ Some (place, possrep)
  pub selects : begins_with_the p.name ≡ false
  pub passes : selection place (item_list is) ≡ Ok (user p is)

-- integers are within 64 bits, texts and names can be written, selectors make the user values
abbrev mutual
  pub IsWritten : SchemaData → Selection → Datum → Type 0
  IsWritten s selection (boolean b) = Unit {0}
  IsWritten s selection (integer n) = in_64_bits n ≡ true
  IsWritten s selection (char x) = IsPlainText x
  IsWritten s selection (user p is) = IsPlainName p.name × HasSelector s selection p is × AreWritten s selection is
  IsWritten s selection (tuple t) = AreWrittenAttributes s selection t
  IsWritten s selection (relation fs ts) = AreDefined s fs × AreWrittenTuples s selection ts

  pub AreWritten : SchemaData → Selection → Items → Type 0
  AreWritten s selection no_items = Unit {0}
  AreWritten s selection (item d is) = IsWritten s selection d × AreWritten s selection is

  pub AreWrittenAttributes : SchemaData → Selection → Attrs → Type 0
  AreWrittenAttributes s selection no_attrs = Unit {0}
  AreWrittenAttributes s selection (attr n d t) = IsPlainName n × IsWritten s selection d × AreWrittenAttributes s selection t

  pub AreWrittenTuples : SchemaData → Selection → Tuples → Type 0
  AreWrittenTuples s selection no_tuples = Unit {0}
  AreWrittenTuples s selection (next_tuple t ts) = AreWrittenAttributes s selection t × AreWrittenTuples s selection ts

-- how many brackets are open at once in the text of a type
abbrev mutual
  pub type_brackets : Ty → ℕ
  type_brackets boolean_type = 0
  type_brackets integer_type = 0
  type_brackets char_type = 0
  type_brackets (user_type n) = 0
  type_brackets (tuple_type fs) = suc (fields_brackets fs)
  type_brackets (relation_type fs) = suc (fields_brackets fs)

  pub fields_brackets : Fields → ℕ
  fields_brackets no_fields = 0
  fields_brackets (field n t fs) = max (type_brackets t) (fields_brackets fs)

-- and in that of a value; the least integer stands in brackets
abbrev mutual
  pub brackets : Datum → ℕ
  brackets (boolean b) = 0
  brackets (integer n) = if int_eq n (negsuc 9223372036854775807) then 1 else 0
  brackets (char x) = 0
  brackets (user p is) = suc (items_brackets is)
  brackets (tuple t) = suc (attrs_brackets t)
  brackets (relation fs ts) = suc (max (fields_brackets fs) (tuples_brackets ts))

  pub items_brackets : Items → ℕ
  items_brackets no_items = 0
  items_brackets (item d is) = max (brackets d) (items_brackets is)

  pub attrs_brackets : Attrs → ℕ
  attrs_brackets no_attrs = 0
  attrs_brackets (attr n d t) = max (brackets d) (attrs_brackets t)

  pub tuples_brackets : Tuples → ℕ
  tuples_brackets no_tuples = 0
  tuples_brackets (next_tuple t ts) = max (suc (attrs_brackets t)) (tuples_brackets ts)

-- a whole value of what is defined that can be written, with a text within the bounds of a query
pub record IsLiteral (s : SchemaData) (selection : Selection) (d : Datum) : Type 0 where
  pub value : IsValue s d
  pub whole : IsWhole d
  pub written : IsWritten s selection d
  pub short : length (shown d) ≤ query_bytes
  pub shallow : brackets d ≤ most_open
