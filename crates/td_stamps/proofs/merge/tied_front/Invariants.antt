use Rattle.std.proofs.Common.{◌≡◌, ◌+◌, drop}
use Rattle.td_stamps.specs.ForProofs.{tied_front}
use Rattle.td_stamps.proofs.merge.tied_front.Given as goal

abbrev pub invariant-loop-i : goal.invariant-loop-i
invariant-loop-i l = l.i + tied_front (drop l.i l.held) (drop l.i l.joined) ≡ tied_front l.held l.joined
