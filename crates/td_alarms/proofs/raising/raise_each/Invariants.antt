use Rattle.std.proofs.Common.{◌≤◌, length, take}
use Rattle.td_alarms.specs.Raising.{RaisesEach}
use Rattle.td_alarms.proofs.raising.raise_each.Given as goal

abbrev pub invariant-loop-at : goal.invariant-loop-at
invariant-loop-at l = RaisesEach l.address (take l.at l.sites) l.initial.kept.items l.kept.items × (length l.initial.kept.items ≤ 64 → length l.kept.items ≤ 64)
