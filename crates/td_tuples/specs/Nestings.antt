-- Headings with tuple- and relation-valued columns: what grouping, wrapping and their inverses make of a heading.
use Rattle.std.specs.Prelude.{◌≡◌, ℕ, List, [], ◌∷◌, Option, None, Some}
use Rattle.std.specs.FinMap as by_name
use Rattle.td_values.specs.Data.{Ty, tuple_type, relation_type, Fields}
use Rattle.td_values.specs.Headings.{Header, header_fields, header_of}
use Rattle.td_tuples.specs.Parts.{columns_in, columns_out}
use Rattle.td_tuples.specs.Unions.{joined, with_column}

-- the other columns, and C with relations over the columns at the names
abbrev pub grouped_columns : List (List ℕ) → List ℕ → Header → Header
grouped_columns names c h = with_column c (relation_type (header_fields (columns_in names h))) (columns_out names h)

-- the other columns, and C with tuples over the columns at the names
abbrev pub wrapped_columns : List (List ℕ) → List ℕ → Header → Header
wrapped_columns names c h = with_column c (tuple_type (header_fields (columns_in names h))) (columns_out names h)

-- the columns that a tuple or relation type is made from
abbrev pub columns_of_type : Ty → Header
columns_of_type (tuple_type fs) = header_of fs
columns_of_type (relation_type fs) = header_of fs
columns_of_type ty = by_name.empty

abbrev pub columns_inside : Option Ty → Header
columns_inside None = by_name.empty
columns_inside (Some ty) = columns_of_type ty

-- those of the type at the name C
abbrev pub inner_columns : List ℕ → Header → Header
inner_columns c h = columns_inside (by_name.get h c)

-- the other columns, and those inside C
abbrev pub opened_columns : List ℕ → Header → Header
opened_columns c h = joined (columns_out (c ∷ []) h) (inner_columns c h)

-- the attribute C is relation-valued, or tuple-valued
abbrev pub IsRelationValued : List ℕ → Header → Type 0
IsRelationValued c h = (fs : Fields) × (by_name.get h c ≡ Some (relation_type fs))

abbrev pub IsTupleValued : List ℕ → Header → Type 0
IsTupleValued c h = (fs : Fields) × (by_name.get h c ≡ Some (tuple_type fs))
