-- Tuples and headings with their names replaced, all at once.
use Rattle.std.specs.Prelude.{ℕ, List, map, unwrap_or}
use Rattle.std.specs.FinMap as by_name
use Rattle.td_values.specs.Data.{Attrs}
use Rattle.td_values.specs.Headings.{Header}
use Rattle.td_values.specs.Order.{text_cmp}
use Rattle.td_tuples.specs.Parts.{attributes}
use Rattle.td_tuples.specs.Unions.{tuple_of}

-- the name after the items, each an old name with its new one
abbrev pub name_after : List (List ℕ × List ℕ) → List ℕ → List ℕ
name_after items n = unwrap_or (by_name.find text_cmp n items) n

-- an entry with its name replaced
abbrev pub with_new_name : {X : Type 0} → List (List ℕ × List ℕ) → List ℕ × X → List ℕ × X
with_new_name items e = (name_after items e.0, e.1)

-- the tuple with its names replaced
abbrev pub renamed : List (List ℕ × List ℕ) → Attrs → Attrs
renamed items t = tuple_of (map (with_new_name items) (attributes t))

-- the heading with its names replaced
abbrev pub renamed_columns : List (List ℕ × List ℕ) → Header → Header
renamed_columns items h = by_name.from_entries (map (with_new_name items) (by_name.entries h))
