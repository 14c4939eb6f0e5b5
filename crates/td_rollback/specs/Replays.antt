-- Replay of a history with more entries, for any state and any step that leaves a record: an old entry that is not
-- touched keeps its record, and its change is made again; every other entry is run.
use Rattle.std.specs.Prelude.{◌≡◌, ℕ, List, [], ◌∷◌}
use Rattle.td_stamps.specs.declared.entry.Entry.{Entry}
use Rattle.td_stamps.specs.declared.entry.Stamp.{Stamp}
use Rattle.td_stamps.specs.Entries.{stamp_of}
use Rattle.td_rollback.specs.Touched.{IsTouched}

-- the change of the record was made again: wherever a step from s has this record, u is what it leads to
abbrev pub IsMadeAgain : {S R : Type 0} → (S → Entry → R → S → Type 0) → S → R → S → Type 0
IsMadeAgain {S = S} Step s r u = (t : S) (e : Entry) → Step s e r t → u ≡ t

-- Replay from a state, where these ran: the old entries that are left with their records, all entries that are left,
-- the records that these get, and the state at the end.
pub data Replays {S R : Type 0} (Step : S → Entry → R → S → Type 0) (Footprint Target : Entry → ℕ → Type 0) : List Entry → S → List Entry → List (Stamp × R) → List Entry → List (Stamp × R) → S → Type 0 where
  ended : {ran : List Entry} {s : S} → Replays Step Footprint Target ran s [] [] [] [] s
  ran_fresh : {ran es fs : List Entry} {s t u : S} {e : Entry} {r : R} {old all : List (Stamp × R)} → Step s e r t → Replays Step Footprint Target (e ∷ ran) t es old fs all u
      → Replays Step Footprint Target ran s es old (e ∷ fs) ((stamp_of e, r) ∷ all) u
  ran_again : {ran es fs : List Entry} {s t u : S} {e : Entry} {k : Stamp} {q r : R} {old all : List (Stamp × R)} → Step s e r t → Replays Step Footprint Target (e ∷ ran) t es old fs all u
      → Replays Step Footprint Target ran s (e ∷ es) ((k, q) ∷ old) (e ∷ fs) ((stamp_of e, r) ∷ all) u
  kept : {ran es fs : List Entry} {s t u : S} {e : Entry} {k : Stamp} {r : R} {old all : List (Stamp × R)} → (IsTouched Footprint Target ran e → ⊥) → IsMadeAgain Step s r t → Replays Step Footprint Target ran t es old fs all u
      → Replays Step Footprint Target ran s (e ∷ es) ((k, r) ∷ old) (e ∷ fs) ((stamp_of e, r) ∷ all) u
