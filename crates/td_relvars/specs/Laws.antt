-- The laws of copies.
use Rattle.std.specs.Prelude.{◌≡◌, ℕ, List}
use Rattle.std.specs.List.{All, Contains}
use Rattle.td_values.specs.Rows.{RowsData}
use Rattle.td_semantics.specs.Databases.{Belongs, DatabaseData, IsDatabase, stored_relvars}
use Rattle.td_relvars.specs.Parts.{part_of, put_part}

-- what is copied of a database belongs where it is put back
abbrev pub PartBelongs : Type 0
PartBelongs =
    (d : DatabaseData) (ns : List ℕ) → IsDatabase d
    → All (λ (p : ℕ × RowsData). Belongs d.catalogue p.0 p.1) (part_of d.stored ns)

-- a copy of some relvars, put back into a database of the same catalogue in which the others are the same, makes it
-- the database that was copied
abbrev pub PutBackRestores : Type 0
PutBackRestores =
    (s t : DatabaseData) (ns : List ℕ) → IsDatabase s → IsDatabase t → s.catalogue ≡ t.catalogue
    → ((n : ℕ) → (Contains ns n → ⊥) → stored_relvars s.stored n ≡ stored_relvars t.stored n)
    → record t { stored = put_part (part_of s.stored ns) t.stored } ≡ s
