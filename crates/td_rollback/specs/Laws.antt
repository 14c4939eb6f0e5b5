-- The laws of the crate.
use Rattle.std.specs.Prelude.{◌≡◌, ◌≤◌, ◌↔◌, ℕ, true, List, [], length, Ok}
use Rattle.std.specs.List.{Contains}
use Rattle.td_stamps.specs.declared.entry.Entry.{Entry}
use Rattle.td_stamps.specs.declared.entry.Stamp.{Stamp}
use Rattle.td_stamps.specs.Checks.{check_of}
use Rattle.td_stamps.specs.Sets.{has, is_set, union}
use Rattle.td_stamps.specs.History.{History}
use Rattle.td_rollback.specs.Counts.{recorded, runs_of}
use Rattle.td_rollback.specs.Going.{AreAlikeBut}
use Rattle.td_rollback.specs.Replays.{Replays}
use Rattle.td_rollback.specs.Touched.{AreMore, Runs}

-- for each of these entries its list has the places, and no others
abbrev pub ListsPlaces : (Entry → ℕ → Type 0) → (Entry → List ℕ) → List Entry → Type 0
ListsPlaces Places names es = (e : Entry) → has es e ≡ true → (n : ℕ) → Contains (names e) n ↔ Places e n

-- there is no second number of entries that are run
abbrev pub RunsAreOne : (Entry → ℕ → Type 0) → (Entry → ℕ → Type 0) → Type 0
RunsAreOne Footprint Target = (ran es fs : List Entry) (m n : ℕ) → Runs Footprint Target ran es fs m → Runs Footprint Target ran es fs n → m ≡ n

-- at most all entries are run
abbrev pub RunsAreFew : (Entry → ℕ → Type 0) → (Entry → ℕ → Type 0) → Type 0
RunsAreFew Footprint Target = (ran es fs : List Entry) (n : ℕ) → Runs Footprint Target ran es fs n → n ≤ length fs

-- it cannot be that there is no such number
abbrev pub RunsAreThere : (Entry → ℕ → Type 0) → (Entry → ℕ → Type 0) → Type 0
RunsAreThere Footprint Target = (ran old new : List Entry) → AreMore old new → ((n : ℕ) → Runs Footprint Target ran old new n → ⊥) → ⊥

-- where lists name the footprints of the old entries and the targets of the new ones, the number is that of the walk
-- along the lists
abbrev pub RunsAreCounted : (Entry → ℕ → Type 0) → (Entry → ℕ → Type 0) → Type 0
RunsAreCounted Footprint Target =
    (old new : List Entry) (footprint targets : Entry → List ℕ) → AreMore old new → ListsPlaces Footprint footprint old → ListsPlaces Target targets new → Runs Footprint Target [] old new (runs_of footprint targets [] old new)

-- the records of a history name the footprints and the targets of its entries
abbrev pub RecordsName : {S R : Type 0} → (S → Type 0) → (S → Entry → R → S → Type 0) → (Entry → ℕ → Type 0) → (R → List ℕ) → Type 0
RecordsName {S = S} {R = R} Sound Step Places names_in =
    (s t : S) (es : List Entry) (log : List (Stamp × R)) → Sound s → History Step s es log t → ListsPlaces Places (recorded names_in es log) es

-- A replay from a state that is alike to the one before the old entries, but for targets of those that ran, is the
-- history of all entries.
abbrev pub ReplayIsHistory : {S R : Type 0} → (S → Type 0) → (S → Entry → R → S → Type 0) → (S → S → ℕ → Type 0) → (Entry → ℕ → Type 0) → (Entry → ℕ → Type 0) → Type 0
ReplayIsHistory {S = S} {R = R} Sound Step Alike Footprint Target =
    (ran : List Entry) (s u end last : S) (es fs : List Entry) (old all : List (Stamp × R)) → Sound s → Sound u → AreAlikeBut Alike Target ran s u
    → History Step s es old last → Replays Step Footprint Target ran u es old fs all end → History Step u fs all end

-- a set and what it is with a batch that is not refused are old and new entries
abbrev pub UnionIsMore : Type 0
UnionIsMore = (held batch : List Entry) (limit fresh : ℕ) → is_set held ≡ true → check_of held limit batch ≡ Ok fresh → AreMore held (union held batch)
