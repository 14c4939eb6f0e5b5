use Rattle.std.proofs.Common.{◌≡◌, ◌-◌, ◌≤◌, length, drop}
use Rattle.std.specs.declared.cmp.Ordering.TheVariants.{Equal}
use Rattle.td_typed_trees.proofs.order.+order.Given as goal

abbrev pub invariant-then_items-loop-ordering : goal.invariant-then_items-loop-ordering
invariant-then_items-loop-ordering l = record {
  in_a : l.i ≤ length l.a;
  in_b : l.i ≤ length l.b;
  before : l.ordering ≡ Equal → l.fn.before ≡ Equal;
  rest : l.ordering ≡ Equal → drop l.i l.a ≡ drop l.i l.b → l.a ≡ l.b;
}

abbrev pub decreases-then_items-loop-ordering : goal.decreases-then_items-loop-ordering
decreases-then_items-loop-ordering l = length l.a - l.i

abbrev pub invariant-then_list-loop-ordering : goal.invariant-then_list-loop-ordering
invariant-then_list-loop-ordering l = record {
  in_a : l.i ≤ length l.a;
  in_b : l.i ≤ length l.b;
  before : l.ordering ≡ Equal → l.fn.before ≡ Equal;
  rest : l.ordering ≡ Equal → drop l.i l.a ≡ drop l.i l.b → l.a ≡ l.b;
}

abbrev pub decreases-then_list-loop-ordering : goal.decreases-then_list-loop-ordering
decreases-then_list-loop-ordering l = length l.a - l.i

abbrev pub invariant-then_named-loop-ordering : goal.invariant-then_named-loop-ordering
invariant-then_named-loop-ordering l = record {
  in_a : l.i ≤ length l.a;
  in_b : l.i ≤ length l.b;
  before : l.ordering ≡ Equal → l.fn.before ≡ Equal;
  rest : l.ordering ≡ Equal → drop l.i l.a ≡ drop l.i l.b → l.a ≡ l.b;
}

abbrev pub decreases-then_named-loop-ordering : goal.decreases-then_named-loop-ordering
decreases-then_named-loop-ordering l = length l.a - l.i

abbrev pub invariant-then_summaries-loop-ordering : goal.invariant-then_summaries-loop-ordering
invariant-then_summaries-loop-ordering l = record {
  in_a : l.i ≤ length l.a;
  in_b : l.i ≤ length l.b;
  before : l.ordering ≡ Equal → l.fn.before ≡ Equal;
  rest : l.ordering ≡ Equal → drop l.i l.a ≡ drop l.i l.b → l.a ≡ l.b;
}

abbrev pub decreases-then_summaries-loop-ordering : goal.decreases-then_summaries-loop-ordering
decreases-then_summaries-loop-ordering l = length l.a - l.i
