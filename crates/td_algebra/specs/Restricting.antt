-- Restriction: the tuples at which a function answers true (Date and Darwen, The Third Manifesto).
use Rattle.std.specs.Prelude.{◌≡◌, Bool, true, if◌then◌else◌, List, [], ◌∷◌, Result, Ok, Err}
use Rattle.td_algebra.specs.declared.errors.Stop.{Stop}
use Rattle.td_values.specs.Data.{Attrs}
use Rattle.td_values.specs.Rows.{RowsData}
use Rattle.td_relations.specs.Sets.{Has}

-- each t of r of which the condition is true
abbrev pub Restricted : (Attrs → Result Bool Stop) → RowsData → Attrs → Type 0
Restricted m r t = Has r t × (m t ≡ Ok true)

-- the condition raises this error at a tuple of r
abbrev pub RaisedIn : {A : Type 0} → (Attrs → Result A Stop) → RowsData → Stop → Type 0
RaisedIn m r e = (t : Attrs) × Has r t × (m t ≡ Err e)

-- those of the first list at which the second is true
abbrev pub select : {X : Type 0} → List X → List Bool → List X
select [] bs = []
select (x ∷ xs) [] = []
select (x ∷ xs) (b ∷ bs) = if b then x ∷ select xs bs else select xs bs
