use Rattle.std.proofs.Common.{◌≡◌, ◌-◌, ◌≤◌, length, drop}
use Rattle.td_values.specs.Alike.{bare_tuples, values_order}
use Rattle.td_values.specs.Data.{attrs_of, tuples_of}
use Rattle.td_values.specs.Order.{tuples_order}
use Rattle.td_values.proofs.alike.+compare_values.Given as goal

abbrev pub invariant-compare_in_turn-loop-i : goal.invariant-compare_in_turn-loop-i
invariant-compare_in_turn-loop-i l = record {
  in_a : l.i ≤ length l.a;
  in_b : l.i ≤ length l.b;
  rest : values_order (attrs_of l.a) (attrs_of l.b) ≡ values_order (attrs_of (drop l.i l.a)) (attrs_of (drop l.i l.b));
}

abbrev pub decreases-compare_in_turn-loop-i : goal.decreases-compare_in_turn-loop-i
decreases-compare_in_turn-loop-i l = length l.a - l.i

abbrev pub invariant-compare_bare_rows-loop-i : goal.invariant-compare_bare_rows-loop-i
invariant-compare_bare_rows-loop-i l = record {
  in_a : l.i ≤ length l.a;
  in_b : l.i ≤ length l.b;
  rest : tuples_order (bare_tuples (tuples_of l.a)) (bare_tuples (tuples_of l.b)) ≡ tuples_order (bare_tuples (tuples_of (drop l.i l.a))) (bare_tuples (tuples_of (drop l.i l.b)));
}

abbrev pub decreases-compare_bare_rows-loop-i : goal.decreases-compare_bare_rows-loop-i
decreases-compare_bare_rows-loop-i l = length l.a - l.i
