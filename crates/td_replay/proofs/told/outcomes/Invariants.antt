use Rattle.std.proofs.Common.{◌≡◌, take}
use Rattle.td_replay.specs.ForProofs.Told.{outcomes_of}
use Rattle.td_replay.proofs.told.outcomes.Given as goal

abbrev pub invariant-loop-stamp : goal.invariant-loop-stamp
invariant-loop-stamp l = l.outcomes.items ≡ outcomes_of (take l.stamp-index l.log)
