use Rattle.std.proofs.Common.{◌≡◌, ◌++◌, drop}
use Rattle.td_algebra.specs.Restricting.{select}
use Rattle.td_algebra.proofs.restriction.select_kept.Given as goal

abbrev pub invariant-loop-i : goal.invariant-loop-i
invariant-loop-i l = l.kept.items ++ select (drop l.i l.tuples) (drop l.i l.keep) ≡ select l.tuples l.keep
