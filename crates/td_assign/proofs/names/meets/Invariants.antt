use Rattle.std.proofs.Common.{All, take}
use Rattle.td_assign.proofs.Naming.{IsNoTarget}
use Rattle.td_assign.proofs.names.meets.Given as goal

abbrev pub invariant-loop-base : goal.invariant-loop-base
invariant-loop-base l = All (IsNoTarget l.targets) (take l.base-index l.bases)
