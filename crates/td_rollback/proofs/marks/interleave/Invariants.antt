use Rattle.std.proofs.Common.{◌≡◌, ◌≤◌, ◌+◌, ◌++◌, length, vec_capacity}
use Rattle.std.specs.Slice.Iter.{iter_rest}
use Rattle.td_rollback.specs.Parts.{interleaved}
use Rattle.td_rollback.proofs.marks.interleave.Given as goal

abbrev pub invariant-loop-mark : goal.invariant-loop-mark
invariant-loop-mark g l = record {
  interleaved : l.all.items ++ interleaved (iter_rest l.rest) l.firsts.rest.items l.seconds.rest.items ≡ l.fn.room.items ++ interleaved l.marks l.fn.within.items l.fn.without.items;
  room : length l.all.items + length (iter_rest l.rest) ≤ vec_capacity l.all;
}

abbrev pub decreases-loop-mark : goal.decreases-loop-mark
decreases-loop-mark g l = length (iter_rest l.rest)
