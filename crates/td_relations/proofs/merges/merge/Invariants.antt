use Rattle.std.proofs.Common.{◌≡◌, ◌+◌, ◌-◌, ◌≤◌, ◌++◌, length, drop}
use Rattle.td_values.specs.Order.{attrs_order}
use Rattle.td_relations.proofs.Walks.{walk}
use Rattle.td_relations.proofs.merges.merge.Given as goal

abbrev pub invariant-loop-i : goal.invariant-loop-i
invariant-loop-i l = record {
  in_xs : l.i ≤ length l.xs;
  in_ys : l.j ≤ length l.ys;
  so_far : l.out.items ++ walk attrs_order l.kept.first l.kept.both l.kept.second (drop l.i l.xs) (drop l.j l.ys) ≡ walk attrs_order l.kept.first l.kept.both l.kept.second l.xs l.ys;
}

abbrev pub decreases-loop-i : goal.decreases-loop-i
decreases-loop-i l = (length l.xs - l.i) + (length l.ys - l.j)
