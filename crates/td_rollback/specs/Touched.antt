-- Which of the old entries new ones touch, and how many entries are run for that. The step of an entry depends on some
-- places, its footprint, and may change some places, its targets.
use Rattle.std.specs.Prelude.{◌≡◌, ℕ, ◌+◌, true, false, List, [], ◌∷◌}
use Rattle.td_stamps.specs.declared.entry.Entry.{Entry}
use Rattle.td_stamps.specs.Entries.{same}
use Rattle.td_stamps.specs.Sets.{has, is_set}

-- both are sets, and the old entries are among the new ones
pub record AreMore (old new : List Entry) : Type 0 where
  pub old_set : is_set old ≡ true
  pub new_set : is_set new ≡ true
  pub among : (e : Entry) → has old e ≡ true → has new e ≡ true

-- the place is a target of one of these entries
abbrev pub IsTargetOf : (Entry → ℕ → Type 0) → List Entry → ℕ → Type 0
IsTargetOf Target es n = (e : Entry) × (has es e ≡ true) × Target e n

-- those that ran touch the entry: they have a target in its footprint
abbrev pub IsTouched : (Entry → ℕ → Type 0) → (Entry → ℕ → Type 0) → List Entry → Entry → Type 0
IsTouched Footprint Target ran e = (n : ℕ) × Footprint e n × IsTargetOf Target ran n

-- How many entries are run. Old and new entries are walked together, in stamp order, of which the first list has those
-- that ran so far. An entry that is not old is run. An old one is run where those touch it.
pub data Runs (Footprint Target : Entry → ℕ → Type 0) : List Entry → List Entry → List Entry → ℕ → Type 0 where
  none_left : {ran : List Entry} → Runs Footprint Target ran [] [] 0
  fresh : {ran es fs : List Entry} {e : Entry} {n : ℕ} → has es e ≡ false → Runs Footprint Target (e ∷ ran) es fs n → Runs Footprint Target ran es (e ∷ fs) (n + 1)
  touched : {ran es fs : List Entry} {y e : Entry} {n : ℕ} → same e y ≡ true → IsTouched Footprint Target ran e → Runs Footprint Target (e ∷ ran) es fs n → Runs Footprint Target ran (y ∷ es) (e ∷ fs) (n + 1)
  untouched : {ran es fs : List Entry} {y e : Entry} {n : ℕ} → same e y ≡ true → (IsTouched Footprint Target ran e → ⊥) → Runs Footprint Target ran es fs n → Runs Footprint Target ran (y ∷ es) (e ∷ fs) n
