-- The count of entries that are run, as a function of lists of places: what `Runs` says where footprints and targets
-- are such lists.
use Rattle.std.specs.Prelude.{ℕ, ◌+◌, Bool, ◌==◌, if◌then◌else◌, List, [], ◌∷◌, ◌++◌}
use Rattle.std.specs.List.{list_any}
use Rattle.td_stamps.specs.declared.entry.Entry.{Entry}
use Rattle.td_stamps.specs.declared.entry.Stamp.{Stamp}
use Rattle.td_stamps.specs.Entries.{same}

-- one of the places is among the names
abbrev pub meets : List ℕ → List ℕ → Bool
meets names places = list_any (λ n. list_any (λ m. m == n) names) places

-- The walk along old and new entries, with the names of all targets so far: an entry that is not old is run and adds
-- its targets, and so does an old one whose footprint meets the names.
abbrev pub runs_of : (Entry → List ℕ) → (Entry → List ℕ) → List ℕ → List Entry → List Entry → ℕ
runs_of footprint targets names old [] = 0
runs_of footprint targets names [] (e ∷ new) = runs_of footprint targets (targets e ++ names) [] new + 1
runs_of footprint targets names (y ∷ old) (e ∷ new) =
    if same e y
    then (if meets names (footprint e) then runs_of footprint targets (targets e ++ names) old new + 1 else runs_of footprint targets names old new)
    else runs_of footprint targets (targets e ++ names) (y ∷ old) new + 1

-- what the record of an entry names
abbrev pub recorded : {R : Type 0} → (R → List ℕ) → List Entry → List (Stamp × R) → Entry → List ℕ
recorded names [] log e = []
recorded names (x ∷ es) [] e = []
recorded names (x ∷ es) (p ∷ log) e = if same e x then names p.1 else recorded names es log e
