use Rattle.std.proofs.Common.{◌≡◌, ◌≤◌, ◌-◌, ℕ, List, length}
use Rattle.td_stamps.specs.declared.entry.Entry.{Entry}
use Rattle.td_semantics.specs.Databases.{DatabaseData}
use Rattle.td_replay.specs.Noted.{IsLegalDatabase}
use Rattle.td_replay.specs.ForProofs.Past.{AreAt}
use Rattle.td_replay.proofs.past.undo_behind.Given as goal

abbrev pub invariant-loop-left : goal.invariant-loop-left
invariant-loop-left l = record {
  within : l.left ≤ length l.log;
  kept : l.kept ≤ l.left;
  at : (o d : DatabaseData) (es : List Entry) (places : List ℕ) → IsLegalDatabase o → length es ≡ length l.log → AreAt o d es l.log places (length l.log) l.initial.part.copies → AreAt o d es l.log places l.left l.part.copies;
}

abbrev pub decreases-loop-left : goal.decreases-loop-left
decreases-loop-left l = l.left - l.kept
