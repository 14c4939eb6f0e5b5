use Rattle.std.proofs.Common.{◌≡◌, ◌+◌, ◌≤◌, ◌++◌, length}
use Rattle.std.specs.FinSet as set
use Rattle.std.specs.Vec.{vec_len, vec_capacity}
use Rattle.std.specs.Vec.Iter.{into_iter_items}
use Rattle.std.specs.List.Sorted.{IsStrictlySortedBy}
use Rattle.td_values.specs.Order.{attrs_order}
use Rattle.td_relations.specs.Sets.{tuple_set}
use Rattle.td_relations.proofs.places.put_in_all.Given as goal

abbrev pub invariant-loop-tuple : goal.invariant-loop-tuple
invariant-loop-tuple l = record {
  seen : l.fn.inserted.items ≡ l.yielded ++ into_iter_items l.tuple-iterator;
  room : vec_len l.tuples + length (into_iter_items l.tuple-iterator) ≤ vec_capacity l.tuples;
  ascending : IsStrictlySortedBy attrs_order l.tuples.items;
  members : tuple_set l.tuples.items ≡ set.union (tuple_set l.initial.tuples.items) (tuple_set l.yielded);
}
