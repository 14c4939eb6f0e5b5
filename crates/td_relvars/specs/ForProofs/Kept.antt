-- What is stored with the keys by which it is kept.
use Rattle.std.specs.Prelude.{◌≡◌, ℕ, List, map, Option, Some, option_map, slice_get}
use Rattle.td_values.specs.Rows.{RowsData}
use Rattle.td_bases.specs.Bases.{BaseData}
use Rattle.td_headings.specs.Catalogues.{CatalogueData}
use Rattle.td_semantics.specs.Databases.{Stored}
use Rattle.td_relvars.specs.Keys.{key_at}
use Rattle.td_relvars.specs.Parts.{Copies}

-- without the keys
abbrev pub rows_of : List (Option BaseData) → Stored
rows_of xs = map (option_map (λ (b : BaseData). b.rows)) xs

-- the keys alone
abbrev pub keys_of : List (Option BaseData) → List (Option (List (List ℕ)))
keys_of xs = map (option_map (λ (b : BaseData). b.key)) xs

-- each is the first key of its relvar
abbrev pub AreFirst : CatalogueData → List (Option (List (List ℕ))) → Type 0
AreFirst c ks = (n : ℕ) (k : List (List ℕ)) → slice_get ks n ≡ Some (Some k) → k ≡ key_at c n

-- of copies: their rows, and the keys by which they are kept
abbrev pub rows_copied : ℕ × BaseData → ℕ × RowsData
rows_copied p = (p.0, p.1.rows)

abbrev pub copies_of : List (ℕ × BaseData) → Copies
copies_of ps = map rows_copied ps

abbrev pub copied_keys : List (ℕ × BaseData) → List (List (List ℕ))
copied_keys ps = map (λ (p : ℕ × BaseData). p.1.key) ps
