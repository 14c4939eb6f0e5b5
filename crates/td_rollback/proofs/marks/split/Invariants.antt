use Rattle.std.proofs.Common.{◌≡◌, ◌≤◌, ◌+◌, ◌++◌, length, vec_capacity}
use Rattle.std.specs.Slice.Iter.{iter_rest}
use Rattle.td_rollback.specs.Parts.{marked, unmarked}
use Rattle.td_rollback.proofs.marks.split.Given as goal

abbrev pub invariant-loop-mark : goal.invariant-loop-mark
invariant-loop-mark g l = record {
  marked : l.within.items ++ marked (iter_rest l.rest) l.items.rest.items ≡ l.fn.first.items ++ marked l.marks l.fn.items.items;
  unmarked : l.without.items ++ unmarked (iter_rest l.rest) l.items.rest.items ≡ l.fn.second.items ++ unmarked l.marks l.fn.items.items;
  room : length l.within.items + length l.items.rest.items ≤ vec_capacity l.within;
  other_room : length l.without.items + length l.items.rest.items ≤ vec_capacity l.without;
}

abbrev pub decreases-loop-mark : goal.decreases-loop-mark
decreases-loop-mark g l = length (iter_rest l.rest)
