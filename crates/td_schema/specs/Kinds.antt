-- Types by their kind, with the headings of tuples and relations.
use Rattle.std.specs.Prelude.{ℕ, Bool, true, false, not, List, Option, Some, None}
use Rattle.std.specs.FinMap as by_name
use Rattle.std.specs.List.{list_all}
use Rattle.std.specs.Ordering.{is_eq}
use Rattle.td_values.specs.Data.{Ty, boolean_type, integer_type, char_type, user_type, tuple_type, relation_type}
use Rattle.td_values.specs.Headings.{Header, header_fields, header_of}
use Rattle.td_values.specs.Order.{ty_order, fields_order}
use Rattle.td_values.specs.View.{ty_of}
use Rattle.td_values.specs.declared.TypeKind.{TypeKind}
use Rattle.td_values.specs.declared.TypeKind.TheVariants as kind

-- a name, as its bytes
abbrev pub Name : Type 0
Name = List ℕ

-- the kind of a type
abbrev pub kind_of : Ty → TypeKind
kind_of boolean_type = kind.Boolean
kind_of integer_type = kind.Integer
kind_of char_type = kind.Char
kind_of (user_type n) = kind.User n
kind_of (tuple_type fs) = kind.Tuple (header_of fs)
kind_of (relation_type fs) = kind.Relation (header_of fs)

-- they are one type
abbrev pub same_type : Ty → Ty → Bool
same_type s t = is_eq (ty_order s t)

abbrev pub same_kind : TypeKind → TypeKind → Bool
same_kind j k = same_type (ty_of j) (ty_of k)

-- they are one heading
abbrev pub same_heading : Header → Header → Bool
same_heading g h = is_eq (fields_order (header_fields g) (header_fields h))

abbrev pub is_boolean : TypeKind → Bool
is_boolean kind.Boolean = true
is_boolean _ = false

abbrev pub is_integer : TypeKind → Bool
is_integer kind.Integer = true
is_integer _ = false

abbrev pub is_char : TypeKind → Bool
is_char kind.Char = true
is_char _ = false

-- the heading of a relation, and of a tuple
abbrev pub relation_heading : TypeKind → Option Header
relation_heading (kind.Relation h) = Some h
relation_heading _ = None

abbrev pub tuple_heading : TypeKind → Option Header
tuple_heading (kind.Tuple h) = Some h
tuple_heading _ = None

-- the name of a user-defined type
abbrev pub user_name : TypeKind → Option Name
user_name (kind.User n) = Some n
user_name _ = None

-- no attribute of h has the name
abbrev pub is_new : Header → Name → Bool
is_new h n = not (by_name.contains_key h n)

-- every name is an attribute's, and none is
abbrev pub are_there : List Name → Header → Bool
are_there ns h = list_all (by_name.contains_key h) ns

abbrev pub are_new : List Name → Header → Bool
are_new ns h = list_all (is_new h) ns

-- an attribute of the type may stand beside those of h: h has none of the name, or one of that type
abbrev pub may_be : Option Ty → Ty → Bool
may_be None t = true
may_be (Some s) t = same_type s t

abbrev pub may_stand_beside : Header → Name × Ty → Bool
may_stand_beside h f = may_be (by_name.get h f.0) f.1

-- common attributes have one type
abbrev pub agree_on_types : Header → Header → Bool
agree_on_types g h = list_all (may_stand_beside g) (by_name.entries h)

-- h has the attribute, with that type
abbrev pub is_type : Option Ty → Ty → Bool
is_type None t = false
is_type (Some s) t = same_type s t

abbrev pub has_attribute : Header → Name × Ty → Bool
has_attribute h f = is_type (by_name.get h f.0) f.1

-- k is a subset of h
abbrev pub is_part : Header → Header → Bool
is_part k h = list_all (has_attribute h) (by_name.entries k)
