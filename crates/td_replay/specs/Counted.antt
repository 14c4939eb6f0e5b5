-- How many entries a site runs where it takes a batch: each fresh one, and each that it holds and that one which ran
-- before it touches.
use Rattle.std.specs.Prelude.{◌≡◌, ℕ, List, [], None, Ok}
use Rattle.td_rollback.specs.Touched.{Runs}
use Rattle.td_stamps.specs.declared.entry.Entry.{Entry}
use Rattle.td_stamps.specs.Checks.{check_of}
use Rattle.td_stamps.specs.Sets.{union}
use Rattle.td_semantics.specs.Databases.{DatabaseData}
use Rattle.td_semantics.specs.Scripts.{OpensOn}
use Rattle.td_replica.specs.Seen.{IsSound, Seen}
use Rattle.td_replay.specs.Noted.{AreTargetsOf, IsFootprintOf}

-- the old entries and all, in histories that began with the database
abbrev pub RunsOver : DatabaseData → List Entry → List Entry → ℕ → Type 0
RunsOver o old new n = Runs (IsFootprintOf o) (AreTargetsOf o) [] old new n

abbrev pub RunsIn : Seen → List Entry → ℕ → Type 0
RunsIn s batch n = (o : DatabaseData) × OpensOn s.script None o × RunsOver o s.entries (union s.entries batch) n

-- there is no second such number
abbrev pub RunsInAreOne : Type 0
RunsInAreOne = (s : Seen) (batch : List Entry) (m n : ℕ) → RunsIn s batch m → RunsIn s batch n → m ≡ n

-- and it cannot be that there is none, where the batch is not refused
abbrev pub RunsInAreThere : Type 0
RunsInAreThere = (s : Seen) (batch : List Entry) (fresh : ℕ) → IsSound s → check_of s.entries s.limit batch ≡ Ok fresh → ((n : ℕ) → RunsIn s batch n → ⊥) → ⊥
