-- The columns inside types.
use Rattle.std.proofs.Common.{◌≡◌, ℕ, List, [], ◌∷◌, refl, sym, ap, ◌∙◌}
use Rattle.std.specs.FinMap as by_name
use Rattle.td_values.specs.Data.{Ty, tuple_type, relation_type, fields_of}
use Rattle.td_values.specs.Headings.{Header, header_fields, field_list}
use Rattle.td_tuples.specs.Nestings.{columns_of_type}
use Rattle.td_tuples.proofs.Lists.{from_entries-entries}

pub field_list_back : (es : List (List ℕ × Ty)) → field_list (fields_of es) ≡ es
field_list_back [] = refl
field_list_back (e ∷ es) = ap (λ r. e ∷ r) (field_list_back es)

pub columns_back : (h : Header) → by_name.from_entries (field_list (header_fields h)) ≡ h
columns_back h = ap by_name.from_entries (field_list_back (by_name.entries h)) ∙ from_entries-entries h

-- the columns inside a type that is made from a heading
pub tuple_columns : (ty : Ty) (h : Header) → tuple_type (header_fields h) ≡ ty → h ≡ columns_of_type ty
tuple_columns ty h e = sym (columns_back h) ∙ ap columns_of_type e

pub relation_columns : (ty : Ty) (h : Header) → relation_type (header_fields h) ≡ ty → h ≡ columns_of_type ty
relation_columns ty h e = sym (columns_back h) ∙ ap columns_of_type e
