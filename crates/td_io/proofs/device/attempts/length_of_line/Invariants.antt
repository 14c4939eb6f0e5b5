use Rattle.std.proofs.Common.{◌≢◌, All, take}
use Rattle.td_io.proofs.device.attempts.length_of_line.Given as goal

abbrev pub invariant-loop-at : goal.invariant-loop-at
invariant-loop-at l = All (λ b. b ≢ 10) (take l.at l.bytes)
