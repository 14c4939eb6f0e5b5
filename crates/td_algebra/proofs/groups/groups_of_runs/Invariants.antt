use Rattle.std.proofs.Common.{take}
use Rattle.td_algebra.specs.ForProofs.Index.{AreGroups}
use Rattle.td_algebra.proofs.groups.groups_of_runs.Given as goal

abbrev pub invariant-loop-at : goal.invariant-loop-at
invariant-loop-at l = AreGroups l.inner l.outer l.name l.index.tuples.items (take l.at l.index.tuples.items) l.out.items
