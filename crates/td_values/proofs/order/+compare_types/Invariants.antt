use Rattle.std.proofs.Common.{◌≡◌, ◌-◌, ◌≤◌, length, drop}
use Rattle.td_values.specs.Order.{fields_order}
use Rattle.td_values.specs.Data.{fields_of}
use Rattle.td_values.proofs.order.+compare_types.Given as goal

abbrev pub invariant-compare_fields-loop-i : goal.invariant-compare_fields-loop-i
invariant-compare_fields-loop-i l = record {
  in_a : l.i ≤ length l.a;
  in_b : l.i ≤ length l.b;
  rest : fields_order (fields_of l.a) (fields_of l.b) ≡ fields_order (fields_of (drop l.i l.a)) (fields_of (drop l.i l.b));
}

abbrev pub decreases-compare_fields-loop-i : goal.decreases-compare_fields-loop-i
decreases-compare_fields-loop-i l = length l.a - l.i
