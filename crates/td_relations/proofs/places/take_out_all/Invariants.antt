use Rattle.std.proofs.Common.{◌≡◌, ◌≤◌, take}
use Rattle.std.specs.FinSet as set
use Rattle.std.specs.Vec.{vec_len, vec_capacity}
use Rattle.std.specs.List.Sorted.{IsStrictlySortedBy}
use Rattle.td_values.specs.Order.{attrs_order}
use Rattle.td_relations.specs.Sets.{tuple_set}
use Rattle.td_relations.proofs.places.take_out_all.Given as goal

abbrev pub invariant-loop-tuple : goal.invariant-loop-tuple
invariant-loop-tuple l = record {
  ascending : IsStrictlySortedBy attrs_order l.tuples.items;
  members : tuple_set l.tuples.items ≡ set.difference (tuple_set l.initial.tuples.items) (tuple_set (take l.tuple-index l.deleted));
  len : vec_len l.tuples ≤ vec_len l.initial.tuples;
  capacity : vec_capacity l.tuples ≡ vec_capacity l.initial.tuples;
}
