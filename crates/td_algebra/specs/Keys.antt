-- Which names tell the tuples of a relation apart (Date and Darwen, The Third Manifesto: a key's values are unique).
use Rattle.std.specs.Prelude.{◌≡◌, ◌↔◌, ℕ, Bool, List}
use Rattle.std.specs.FinSet as set
use Rattle.std.specs.List.{Contains, filter}
use Rattle.std.specs.List.Sorted.{IsStrictlySortedBy}
use Rattle.std.specs.Ordering.{eq_by_cmp}
use Rattle.td_values.specs.Data.{Attrs}
use Rattle.td_values.specs.Order.{attrs_order}
use Rattle.td_values.specs.Rows.{RowsData}
use Rattle.td_relations.specs.Deltas.{DeltaData, IsDifference}
use Rattle.td_relations.specs.Sets.{Has, IsRelation, body}
use Rattle.td_tuples.specs.Parts.{cut}
use Rattle.td_algebra.specs.KeyIndexes.{KeyIndexData, IsKeyIndex, HasOneMore}

-- no two different tuples of r have the same part at these names
abbrev pub TellApart : List (List ℕ) → RowsData → Type 0
TellApart names r = (t u : Attrs) → Has r t → Has r u → cut names t ≡ cut names u → t ≡ u

-- no tuple of i has the part of another tuple of r at these names
abbrev pub TellApartFrom : List (List ℕ) → RowsData → RowsData → Type 0
TellApartFrom names i r = (t u : Attrs) → Has i t → Has r u → cut names t ≡ cut names u → t ≡ u

-- names that told the tuples apart before a change do so after it where they tell those that it inserted from all
-- others
abbrev pub KeyAfter : Type 0
KeyAfter = (names : List (List ℕ)) (before after : RowsData) (d : DeltaData) → TellApart names before → IsDifference before after d → TellApart names after ↔ TellApartFrom names d.inserted after

-- ---- indexes by a key
-- u has t's part at these names
abbrev pub shares_part : List (List ℕ) → Attrs → Attrs → Bool
shares_part names t u = eq_by_cmp attrs_order (cut names u) (cut names t)

-- the key tells the tuples apart where none finds another one in the index
abbrev pub KeyIndexTellsApart : Type 0
KeyIndexTellsApart = (key : List (List ℕ)) (r : RowsData) (x : KeyIndexData) → IsKeyIndex key r x
    → TellApart key r ↔ ((t u : Attrs) → Has r t → Contains (filter (shares_part key t) x.tuples) u → t ≡ u)

-- with one tuple more, an index of r is one of r with that tuple
abbrev pub KeyIndexInserted : Type 0
KeyIndexInserted = (key : List (List ℕ)) (r n : RowsData) (t : Attrs) (x y : KeyIndexData) → IsStrictlySortedBy attrs_order r.tuples
    → IsKeyIndex key r x → ¬ (Has r t) → IsRelation r.heading (set.insert (body r) t) n → HasOneMore t x y → IsKeyIndex key n y

-- and with one tuple less it is one of r without it
abbrev pub KeyIndexRemoved : Type 0
KeyIndexRemoved = (key : List (List ℕ)) (r n : RowsData) (t : Attrs) (x y : KeyIndexData) → IsStrictlySortedBy attrs_order r.tuples
    → IsKeyIndex key r x → Has r t → IsRelation r.heading (set.remove (body r) t) n → HasOneMore t y x → IsKeyIndex key n y
