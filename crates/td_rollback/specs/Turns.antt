-- What becomes of the records of entries in a replay.
use Rattle.std.specs.Prelude.{ℕ, List, [], ◌∷◌, ◌++◌, drop, take}
use Rattle.td_stamps.specs.declared.entry.Stamp.{Stamp}
use Rattle.td_rollback.specs.declared.turns.ReplayedRecord.{ReplayedRecord}
use Rattle.td_rollback.specs.declared.turns.ReplayedRecord.TheVariants.{Kept, Again, Fresh}

-- the records after turns, over the old ones in order: one that is kept stays, one of an entry that ran again gives
-- way, a fresh one comes between
abbrev pub settled : {R : Type 0} → List (Stamp × R) → List (ReplayedRecord R) → List (Stamp × R)
settled old [] = []
settled old (Fresh p ∷ ts) = p ∷ settled old ts
settled [] (Kept ∷ ts) = settled [] ts
settled (q ∷ old) (Kept ∷ ts) = q ∷ settled old ts
settled [] (Again p ∷ ts) = p ∷ settled [] ts
settled (q ∷ old) (Again p ∷ ts) = p ∷ settled old ts

-- so many of the first stay, and the others take turns
abbrev pub replayed_log : {R : Type 0} → List (Stamp × R) → ℕ → List (ReplayedRecord R) → List (Stamp × R)
replayed_log old kept turns = take kept old ++ settled (drop kept old) turns
