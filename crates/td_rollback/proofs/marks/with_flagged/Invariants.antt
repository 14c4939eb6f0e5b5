use Rattle.std.proofs.Common.{◌≡◌, ◌++◌, length}
use Rattle.std.specs.Slice.Iter.{iter_rest}
use Rattle.td_rollback.specs.ForProofs.Marked.{with_flagged}
use Rattle.td_rollback.proofs.marks.with_flagged.Given as goal

abbrev pub invariant-loop-flag : goal.invariant-loop-flag
invariant-loop-flag l = l.all.items ++ with_flagged (iter_rest l.rest) (iter_rest l.olds) ≡ with_flagged l.flags l.marks

abbrev pub decreases-loop-flag : goal.decreases-loop-flag
decreases-loop-flag l = length (iter_rest l.rest)
