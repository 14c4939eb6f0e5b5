-- The table of a relvar, as comma-separated values: a record of the attribute names in name order, then one for each
-- tuple, ascending, as the default writer of csv writes records. A text stands as it is, every other kind of value as
-- it is shown.
use Rattle.std.specs.Prelude.{ℕ, List, [], ◌∷◌, ◌++◌, map}
use Rattle.std.specs.FinMap as by_name
use Rattle.std.specs.List.{flat_map}
use Rattle.csv.specs.Writing.{default_writer, row_text}
use Rattle.td_values.specs.Data.{Datum, boolean, integer, char, user, tuple, relation, Attrs, no_attrs, attr}
use Rattle.td_values.specs.Headings.{Header}
use Rattle.td_values.specs.Rows.{RowsData}
use Rattle.td_values.specs.Shown.{shown}

-- the text of a value
abbrev pub cell : Datum → List ℕ
cell (char s) = s
cell (boolean b) = shown (boolean b)
cell (integer n) = shown (integer n)
cell (user p is) = shown (user p is)
cell (tuple t) = shown (tuple t)
cell (relation h ts) = shown (relation h ts)

-- those of a tuple, in name order
abbrev pub cells : Attrs → List (List ℕ)
cells no_attrs = []
cells (attr n d rest) = cell d ∷ cells rest

abbrev pub column_names : Header → List (List ℕ)
column_names h = map (λ a. a.0) (by_name.entries h)

abbrev pub record_of : List (List ℕ) → List ℕ
record_of fields = row_text default_writer fields

abbrev pub tuple_record : Attrs → List ℕ
tuple_record t = record_of (cells t)

abbrev pub table_of : RowsData → List ℕ
table_of r = record_of (column_names r.heading) ++ flat_map tuple_record r.tuples
