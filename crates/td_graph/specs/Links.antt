-- Links between places, and what is reached along them.
use Rattle.std.specs.Prelude.{ℕ, ◌<◌, List, [], ◌∷◌, ◌++◌, length, slice_index_or, slice_set}
use Rattle.std.specs.List.{Contains}

-- the one place leads to the other in a step
abbrev pub LeadsOn : List (List ℕ) → ℕ → ℕ → Type 0
LeadsOn links v w = Contains (slice_index_or links v []) w

-- A place is reached from these where it is one of them, or where a place that is reached leads to it. What lies beyond
-- the links is no place.
pub data ReachedFrom (links : List (List ℕ)) (starts : List ℕ) : ℕ → Type 0 where
  start : {w : ℕ} → Contains starts w → w < length links → ReachedFrom links starts w
  onward : {v w : ℕ} → ReachedFrom links starts v → LeadsOn links v w → w < length links → ReachedFrom links starts w

-- the links with one more
abbrev pub with_link : List (List ℕ) → ℕ → ℕ → List (List ℕ)
with_link links v w = slice_set links v (slice_index_or links v [] ++ w ∷ [])
