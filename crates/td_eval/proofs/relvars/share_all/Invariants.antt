use Rattle.std.proofs.Common.{◌≡◌, ◌++◌, drop}
use Rattle.td_eval.proofs.relvars.share_all.Given as goal

abbrev pub invariant-loop-known : goal.invariant-loop-known
invariant-loop-known l = l.relvars ≡ l.shared.items ++ drop l.known-index l.relvars
