use Rattle.std.proofs.Common.{◌≤◌, length}
use Rattle.td_alarms.proofs.kept.alarms_of.Given as goal

abbrev pub invariant-loop-line : goal.invariant-loop-line
invariant-loop-line l = length l.kept.items ≤ 64
