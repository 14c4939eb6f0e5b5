use Rattle.std.proofs.Common.{◌+◌, ◌≤◌, ◌++◌, length}
use Rattle.std.specs.List.Sorted.{IsPermutation, IsSortedByKey}
use Rattle.std.specs.Vec.{vec_capacity}
use Rattle.std.specs.Vec.Iter.{into_iter_items}
use Rattle.td_values.specs.Order.{attrs_order}
use Rattle.td_algebra.specs.ForProofs.Places.{values_at}
use Rattle.td_algebra.proofs.key_changes.put_each_in.Given as goal

abbrev pub invariant-loop-tuple : goal.invariant-loop-tuple
invariant-loop-tuple l = record {
  more : IsPermutation (l.fn.tuples.items ++ l.initial.entries.items) (into_iter_items l.tuple-iterator ++ l.entries.items);
  room : length l.entries.items + length (into_iter_items l.tuple-iterator) ≤ vec_capacity l.entries;
  sorted : IsSortedByKey (values_at l.places) attrs_order l.entries.items;
}
