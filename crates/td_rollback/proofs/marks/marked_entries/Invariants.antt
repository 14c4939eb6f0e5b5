use Rattle.std.proofs.Common.{◌≡◌, ◌++◌, length}
use Rattle.std.specs.Slice.Iter.{iter_rest}
use Rattle.td_rollback.specs.Parts.{marked}
use Rattle.td_rollback.proofs.marks.marked_entries.Given as goal

abbrev pub invariant-loop-mark : goal.invariant-loop-mark
invariant-loop-mark l = l.chosen.items ++ marked (iter_rest l.rest) (iter_rest l.entries) ≡ marked l.marks l.fn.entries

abbrev pub decreases-loop-mark : goal.decreases-loop-mark
decreases-loop-mark l = length (iter_rest l.rest)
