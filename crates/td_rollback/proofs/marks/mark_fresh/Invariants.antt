use Rattle.std.proofs.Common.{◌≡◌, ◌≤◌, ◌++◌, ◌-◌, Bool, List, drop, length}
use Rattle.td_rollback.specs.Parts.{marked}
use Rattle.td_rollback.specs.Touched.{AreMore}
use Rattle.td_rollback.specs.ForProofs.Marked.{AreFlagged}
use Rattle.td_rollback.proofs.marks.mark_fresh.Given as goal

abbrev pub invariant-loop-at : goal.invariant-loop-at
invariant-loop-at l = record {
  in_old : l.at ≤ length l.old;
  in_new : l.passed ≤ length l.new;
  each : length l.flags.items ≡ l.passed;
  more : AreMore (drop l.at l.old) (drop l.passed l.new);
  flagged : (rest : List Bool) → AreFlagged (drop l.at l.old) rest (drop l.passed l.new) → AreFlagged l.old (l.flags.items ++ rest) l.new;
  chosen : (rest : List Bool) → marked (l.flags.items ++ rest) l.new ≡ l.fresh.items ++ marked rest (drop l.passed l.new);
}

abbrev pub decreases-loop-at : goal.decreases-loop-at
decreases-loop-at l = length l.new - l.passed
