-- The values that pairs are made of, and where each stands: helpers of private code.
use Rattle.std.specs.Prelude.{◌≡◌, ◌↔◌, ℕ, ◌<◌, List, [], ◌∷◌, ◌++◌, length, slice_get, slice_index_or, Option, None, Some, true}
use Rattle.std.specs.FinSet as set
use Rattle.std.specs.List.{Contains}
use Rattle.td_values.specs.Attributes.{attribute_of}
use Rattle.td_values.specs.Data.{Datum, Attrs, no_attrs, attr}
use Rattle.td_relations.specs.Sets.{tuple_set}
use Rattle.td_algebra.specs.ForProofs.Links.{LeadsOn, Reaches, with_link}

-- a value alone
abbrev pub single : List ℕ → Datum → Attrs
single a x = attr a x no_attrs

abbrev pub singles : List ℕ → Option Datum → List Attrs
singles a None = []
singles a (Some x) = single a x ∷ []

-- t's values at both names, each alone under the first one
abbrev pub ends_in : List ℕ → List ℕ → Attrs → List Attrs
ends_in a b t = singles a (attribute_of a t) ++ singles a (attribute_of b t)

-- the value is one of the ends
abbrev pub HasEnd : List Attrs → List ℕ → Datum → Type 0
HasEnd ends a x = set.contains (tuple_set ends) (single a x) ≡ true

-- it stands there
abbrev pub IsEnd : List Attrs → List ℕ → Datum → ℕ → Type 0
IsEnd ends a x v = slice_get ends v ≡ Some (single a x)

-- one more link, from the place of x to that of y
abbrev pub Joins : List Attrs → List ℕ → Datum → Datum → List (List ℕ) → List (List ℕ) → Type 0
Joins ends a x y old new = (v : ℕ) × (w : ℕ) × IsEnd ends a x v × IsEnd ends a y w × (new ≡ with_link old v w)

-- one place leads to another where the pair of their values is one of these
pub record AreLinks (a b : List ℕ) (ends ts : List Attrs) (links : List (List ℕ)) : Type 0 where
  pub many : length links ≡ length ends
  pub sound : (v w : ℕ) → LeadsOn links v w → (x : Datum) × (y : Datum) × IsEnd ends a x v × IsEnd ends a y w × Contains ts (attr a x (attr b y no_attrs))
  pub complete : (x y : Datum) → Contains ts (attr a x (attr b y no_attrs)) → (v : ℕ) × (w : ℕ) × IsEnd ends a x v × IsEnd ends a y w × LeadsOn links v w

-- the pair of two values
abbrev pub paired : List ℕ → List ℕ → Option Datum → Option Datum → List Attrs
paired a b None y = []
paired a b (Some x) None = []
paired a b (Some x) (Some y) = attr a x (attr b y no_attrs) ∷ []

-- the pair of what stands at two places
abbrev pub pair_at : List ℕ → List ℕ → List Attrs → ℕ → ℕ → List Attrs
pair_at a b ends v w = paired a b (attribute_of a (slice_index_or ends v no_attrs)) (attribute_of a (slice_index_or ends w no_attrs))

-- the pairs of each of the first n places with those that it reaches
abbrev pub ArePairs : List ℕ → List ℕ → List Attrs → List (List ℕ) → ℕ → List Attrs → Type 0
ArePairs a b ends links n out = (t : Attrs) → Contains out t ↔ ((v : ℕ) × (w : ℕ) × (v < n) × Reaches links v w × Contains (pair_at a b ends v w) t)
