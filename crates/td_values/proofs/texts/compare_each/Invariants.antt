use Rattle.std.proofs.Common.{◌≡◌, ◌-◌, ◌≤◌, length, drop}
use Rattle.td_values.specs.Order.{text_cmp}
use Rattle.td_values.proofs.texts.compare_each.Given as goal

abbrev pub invariant-loop-i : goal.invariant-loop-i
invariant-loop-i l = record {
  in_a : l.i ≤ length l.a;
  in_b : l.i ≤ length l.b;
  rest : text_cmp l.a l.b ≡ text_cmp (drop l.i l.a) (drop l.i l.b);
}

abbrev pub decreases-loop-i : goal.decreases-loop-i
decreases-loop-i l = length l.a - l.i
