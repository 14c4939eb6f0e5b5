-- The law of the crate.
use Rattle.std.specs.Prelude.{ℕ, List}
use Rattle.std.specs.List.{Contains}
use Rattle.td_relations.specs.Deltas.{DeltaData}
use Rattle.td_stamps.specs.declared.entry.Stamp.{Stamp}
use Rattle.td_replica.specs.Laws.{HoldTheSame}
use Rattle.td_replica.specs.Seen.{Seen}
use Rattle.td_changes.specs.Changes.{IsChangedBy}

-- sites of one script that hold the same set tell the same changes of a statement, in whatever order
abbrev pub ChangesAgree : Type 0
ChangesAgree =
    (s t : Seen) → HoldTheSame s t → (at : Stamp) (xs ys : List (ℕ × DeltaData)) → IsChangedBy s at xs → IsChangedBy t at ys
    → (change : ℕ × DeltaData) → Contains xs change → Contains ys change
