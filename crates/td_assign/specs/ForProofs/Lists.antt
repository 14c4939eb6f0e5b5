-- The list in which the program keeps what targets are given.
use Rattle.std.specs.Prelude.{◌≡◌, ℕ, ◌==◌, if◌then◌else◌, List, [], ◌∷◌, map, None, Some}
use Rattle.td_values.specs.Rows.{RowsData}
use Rattle.td_bases.specs.Bases.{BaseData}
use Rattle.td_headings.specs.Catalogues.{CatalogueData}
use Rattle.td_relvars.specs.Keys.{key_at}
use Rattle.td_semantics.specs.Given.{Given}
use Rattle.td_assign.specs.declared.changes.Change.{Change}

-- with the relation for the target, in place of what an earlier assignment gave it
abbrev pub given : ℕ → RowsData → List Change → List Change
given n r [] = record { target = n; relation = r } ∷ []
given n r (c ∷ cs) = if c.target == n then record { target = n; relation = r } ∷ cs else c ∷ given n r cs

-- what the list gives
abbrev pub given_to : List Change → Given
given_to [] n = None
given_to (c ∷ cs) n = if c.target == n then Some c.relation else given_to cs n

-- the list that bases are of, by their places
abbrev pub change_of : ℕ × BaseData → Change
change_of p = record { target = p.0; relation = p.1.rows }

abbrev pub changes_of : List (ℕ × BaseData) → List Change
changes_of ps = map change_of ps

-- the base is kept by the first key of its relvar
abbrev pub IsKeyed : CatalogueData → ℕ × BaseData → Type 0
IsKeyed c p = p.1.key ≡ key_at c p.0
