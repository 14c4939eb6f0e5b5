-- New attributes, each with its name and its type, and the heading with them.
use Rattle.std.specs.Prelude.{ℕ, List, map}
use Rattle.std.specs.FinMap as by_name
use Rattle.td_values.specs.Data.{Ty}
use Rattle.td_values.specs.Headings.{Header}
use Rattle.td_values.specs.Order.{text_cmp}
use Rattle.td_tuples.specs.declared.items.Item.{Item}
use Rattle.td_tuples.specs.Unions.{joined}

-- the items' names with their types
abbrev pub column_of : {E : Type 0} → Item E → List ℕ × Ty
column_of i = (i.name, i.ty)

abbrev pub columns_of : {E : Type 0} → List (Item E) → Header
columns_of items = by_name.from_entries {R = text_cmp} (map column_of items)

-- h with the items' columns, new or replaced
abbrev pub extended_columns : {E : Type 0} → List (Item E) → Header → Header
extended_columns items h = joined (columns_of items) h
