use Rattle.std.proofs.Common.{◌≡◌, ◌++◌, take, map}
use Rattle.td_tuples.specs.Unions.{beside}
use Rattle.td_algebra.proofs.opening.add_each.Given as goal

abbrev pub invariant-loop-other : goal.invariant-loop-other
invariant-loop-other l = l.out.items ≡ l.initial.out.items ++ map (beside l.tuple) (take l.other-index l.others)
