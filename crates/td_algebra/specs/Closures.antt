-- The transitive closure of a relation of pairs.
use Rattle.std.specs.Prelude.{◌≡◌, ℕ, List, [], ◌∷◌}
use Rattle.std.specs.FinMap as by_name
use Rattle.td_values.specs.Data.{Ty, Datum, Attrs, no_attrs, attr}
use Rattle.td_values.specs.Headings.{Header}
use Rattle.td_values.specs.Rows.{RowsData, AreRows}
use Rattle.td_relations.specs.Sets.{Has, IsRelationOf}

-- the heading has these two columns, of one type
pub record HasColumns (first second : List ℕ) (h : Header) : Type 0 where
  pub ty : Ty
  pub are : by_name.entries h ≡ (first, ty) ∷ (second, ty) ∷ []

-- two columns of one type
pub record IsBinary (h : Header) : Type 0 where
  pub first : List ℕ
  pub second : List ℕ
  pub columns : HasColumns first second h

-- the tuple (x, y)
abbrev pub pair_of : List (List ℕ × Ty) → Datum → Datum → Attrs
pair_of (f ∷ g ∷ []) x y = attr f.0 x (attr g.0 y no_attrs)
pair_of _ x y = no_attrs

abbrev pub pair : Header → Datum → Datum → Attrs
pair h x y = pair_of (by_name.entries h) x y

abbrev pub HasPair : RowsData → Datum → Datum → Type 0
HasPair r x y = Has r (pair r.heading x y)

-- in the list x, zs, y each neighbouring pair is in r
abbrev pub Linked : RowsData → Datum → List Datum → Datum → Type 0
Linked r x [] y = HasPair r x y
Linked r x (z ∷ zs) y = HasPair r x z × Linked r z zs y

-- (x, y) where a list x, .., y of at least two members has each neighbouring pair in r
abbrev pub Closed : RowsData → Attrs → Type 0
Closed r u = (x : Datum) × (y : Datum) × (zs : List Datum) × (Linked r x zs y) × (u ≡ pair r.heading x y)

abbrev pub IsTransitive : RowsData → Type 0
IsTransitive r = (x y z : Datum) → HasPair r x y → HasPair r y z → HasPair r x z

abbrev pub Within : RowsData → RowsData → Type 0
Within r s = (t : Attrs) → Has r t → Has s t

-- the closure c of r is transitive, contains r, and lies within every transitive relation that contains r
pub record IsLeast (r c : RowsData) : Type 0 where
  pub transitive : IsTransitive c
  pub contains : Within r c
  pub least : (s : RowsData) → s.heading ≡ r.heading → IsTransitive s → Within r s → Within c s

abbrev pub TcloseIsLeast : Type 0
TcloseIsLeast = (r c : RowsData) → IsBinary r.heading → AreRows r.heading r.tuples → IsRelationOf r.heading (Closed r) c → IsLeast r c
