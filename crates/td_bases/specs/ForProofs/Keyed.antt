-- A relation's tuples by its keys, and what becomes of them where it changes.
use Rattle.std.specs.Prelude.{◌≡◌, false, ◌⊎◌, ◌<◌, ◌≤◌, ℕ, List, [], ◌∷◌, length, map, get_or}
use Rattle.std.specs.FinSet as set
use Rattle.std.specs.List.{All}
use Rattle.std.specs.List.Sorted.{IsStrictlySortedBy}
use Rattle.td_values.specs.Data.{Attrs}
use Rattle.td_values.specs.Order.{attrs_order}
use Rattle.td_values.specs.Rows.{RowsData}
use Rattle.td_relations.specs.Sets.{Has, body, relation_of, tuple_set}
use Rattle.td_tuples.specs.Parts.{Fits}
use Rattle.td_algebra.specs.KeyIndexes.{IsKeyIndex, IsReplaceable, KeyIndexData}

-- x has the tuples of r, by its own key
abbrev pub IsIndexOf : RowsData → KeyIndexData → Type 0
IsIndexOf r x = IsKeyIndex x.key r x

-- the key of each index
abbrev pub keys_of : List KeyIndexData → List (List (List ℕ))
keys_of xs = map (λ (x : KeyIndexData). x.key) xs

-- that of the first one
abbrev pub first_key : List KeyIndexData → List (List ℕ)
first_key [] = []
first_key (x ∷ xs) = x.key

-- there is a first one, and all are indexes of r
pub record AreOf (r : RowsData) (xs : List KeyIndexData) : Type 0 where
  pub some : 0 < length xs
  pub each : All (IsIndexOf r) xs

-- r with the tuples of i too
abbrev pub with_more : RowsData → RowsData → RowsData
with_more r i = relation_of r.heading (set.union (body r) (body i))

-- x has the tuples of r, and besides them only some of those that are gone
pub record IsBeyond (r : RowsData) (IsGone : Attrs → Type 0) (x : KeyIndexData) : Type 0 where
  pub all : RowsData
  pub heading : all.heading ≡ r.heading
  pub ascending : IsStrictlySortedBy attrs_order all.tuples
  pub index : IsIndexOf all x
  pub there : (t : Attrs) → Has r t → Has all t
  pub only : (t : Attrs) → Has all t → Has r t ⊎ IsGone t

-- which of the tuples of g stand in r the relation s tells
abbrev pub Tells : RowsData → RowsData → RowsData → Type 0
Tells s r g = (t : Attrs) → Has g t → set.contains (body r) t ≡ set.contains (body s) t

-- these are the tuples of i that r lacks
pub record AreFresh (r i : RowsData) (ts : List Attrs) : Type 0 where
  pub ascending : IsStrictlySortedBy attrs_order ts
  pub members : tuple_set ts ≡ set.difference (body i) (body r)
  pub fit : All (Fits r.heading) ts

-- t stands among these from the place on
abbrev pub IsLeft : ℕ → List Attrs → Attrs → Type 0
IsLeft k ts t = (i : ℕ) × (k ≤ i) × (i < length ts) × (get_or ts i t ≡ t)

-- o has one tuple and i another one that r lacks: the one index has the first at this place, where the second may stand
pub record IsReplaced (r : RowsData) (xs : List KeyIndexData) (o i : RowsData) (at : ℕ) : Type 0 where
  pub index : KeyIndexData
  pub gone : Attrs
  pub more : Attrs
  pub only_index : xs ≡ index ∷ []
  pub only_gone : o.tuples ≡ gone ∷ []
  pub only_more : i.tuples ≡ more ∷ []
  pub replaceable : IsReplaceable gone more index at
  pub fresh : set.contains (body r) more ≡ false
