use Rattle.std.proofs.Common.{◌≡◌, ◌<◌, ◌≤◌, ◌-◌, None, length, take}
use Rattle.td_stamps.specs.Checks.{first_clash}
use Rattle.td_stamps.proofs.merge.first_clash_in.Given as goal

abbrev pub invariant-loop-clear : goal.invariant-loop-clear
invariant-loop-clear l = record {
  apart : l.clear < l.clashing;
  within : l.clashing ≤ length l.batch;
  clear : first_clash l.held (take l.clear l.batch) ≡ None;
  clashing : first_clash l.held (take l.clashing l.batch) ≡ None → ⊥;
}

abbrev pub decreases-loop-clear : goal.decreases-loop-clear
decreases-loop-clear l = l.clashing - l.clear
