-- Words that only proofs and private functions use.
use Rattle.std.specs.Prelude.{◌≡◌, ℕ, zero, suc, ◌+◌, ◌≤◌, Bool, true, ◌&&◌, ◌==◌, List, [], ◌∷◌, length, slice_index, Option, None, Some, if◌then◌else◌}
use Rattle.std.specs.List.{list_all}
use Rattle.td_stamps.specs.declared.entry.Entry.{Entry}
use Rattle.td_stamps.specs.Entries.{in_range}
use Rattle.td_stamps.specs.Sets.{union, is_set}
use Rattle.td_stamps.specs.Checks.{first_clash}
use Rattle.td_stamps.specs.Vectors.{VersionVector, IsVector, number_of}

-- what joining a set and a batch that have no clash gives
pub record Joins (held batch joined : List Entry) : Type 0 where
  pub clear : first_clash held batch ≡ None
  pub is : joined ≡ union held batch
  pub set : is_set joined ≡ true
  pub ranges : list_all in_range joined ≡ true
  pub grows : length held ≤ length joined
  pub few : length joined ≤ length held + length batch

-- two entries have one stamp
abbrev pub tie : Entry → Entry → Bool
tie a b = (a.clock == b.clock) && (a.site == b.site)

-- how many stamps two lists begin with alike
abbrev pub tied_front : List Entry → List Entry → ℕ
tied_front [] ys = 0
tied_front (x ∷ xs) [] = 0
tied_front (x ∷ xs) (y ∷ ys) = if tie x y then suc (tied_front xs ys) else 0

-- the numbers of a vector, each at its site's place
pub record AreNumbers (xs : List Entry) (ns : List ℕ) : Type 0 where
  pub vector : VersionVector
  pub is : IsVector xs vector
  pub at : (site : ℕ) → number_of vector site ≡ slice_index ns site

-- a number that is not 0
abbrev pub nonzero : ℕ → Option ℕ
nonzero zero = None
nonzero (suc n) = Some (suc n)
