use Rattle.std.proofs.Common.{◌≡◌, ◌+◌, ◌-◌, ◌≤◌, ◌++◌, true, false, length, drop}
use Rattle.td_values.specs.Order.{attrs_order}
use Rattle.td_relations.proofs.Walks.{walk}
use Rattle.td_relations.proofs.merges.split_differences.Given as goal

abbrev pub invariant-loop-i : goal.invariant-loop-i
invariant-loop-i l = record {
  in_xs : l.i ≤ length l.xs;
  in_ys : l.j ≤ length l.ys;
  of_first : l.firsts.items ++ walk attrs_order true false false (drop l.i l.xs) (drop l.j l.ys) ≡ walk attrs_order true false false l.xs l.ys;
  of_second : l.seconds.items ++ walk attrs_order false false true (drop l.i l.xs) (drop l.j l.ys) ≡ walk attrs_order false false true l.xs l.ys;
}

abbrev pub decreases-loop-i : goal.decreases-loop-i
decreases-loop-i l = (length l.xs - l.i) + (length l.ys - l.j)
