use Rattle.std.proofs.Common.{◌≡◌, ◌-◌, ◌≤◌, length, take}
use Rattle.td_rollback.proofs.undoing.common_of.Given as goal

abbrev pub invariant-loop-common : goal.invariant-loop-common
invariant-loop-common l = record {
  alike : take l.common l.old ≡ take l.common l.new;
  in_old : l.common ≤ length l.old;
  in_new : l.common ≤ length l.new;
}

abbrev pub decreases-loop-common : goal.decreases-loop-common
decreases-loop-common l = length l.old - l.common
