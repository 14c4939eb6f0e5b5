use Rattle.std.proofs.Common.{◌≡◌, ◌-◌, ◌≤◌, length, drop}
use Rattle.td_values.specs.Order.{items_order, attrs_order, tuples_order}
use Rattle.td_values.specs.Data.{items_of, attrs_of, tuples_of}
use Rattle.td_values.proofs.order.+compare.Given as goal

abbrev pub invariant-compare_items-loop-i : goal.invariant-compare_items-loop-i
invariant-compare_items-loop-i l = record {
  in_a : l.i ≤ length l.a;
  in_b : l.i ≤ length l.b;
  rest : items_order (items_of l.a) (items_of l.b) ≡ items_order (items_of (drop l.i l.a)) (items_of (drop l.i l.b));
}

abbrev pub decreases-compare_items-loop-i : goal.decreases-compare_items-loop-i
decreases-compare_items-loop-i l = length l.a - l.i

abbrev pub invariant-compare_attributes-loop-i : goal.invariant-compare_attributes-loop-i
invariant-compare_attributes-loop-i l = record {
  in_a : l.i ≤ length l.a;
  in_b : l.i ≤ length l.b;
  rest : attrs_order (attrs_of l.a) (attrs_of l.b) ≡ attrs_order (attrs_of (drop l.i l.a)) (attrs_of (drop l.i l.b));
}

abbrev pub decreases-compare_attributes-loop-i : goal.decreases-compare_attributes-loop-i
decreases-compare_attributes-loop-i l = length l.a - l.i

abbrev pub invariant-compare_rows-loop-i : goal.invariant-compare_rows-loop-i
invariant-compare_rows-loop-i l = record {
  in_a : l.i ≤ length l.a;
  in_b : l.i ≤ length l.b;
  rest : tuples_order (tuples_of l.a) (tuples_of l.b) ≡ tuples_order (tuples_of (drop l.i l.a)) (tuples_of (drop l.i l.b));
}

abbrev pub decreases-compare_rows-loop-i : goal.decreases-compare_rows-loop-i
decreases-compare_rows-loop-i l = length l.a - l.i
