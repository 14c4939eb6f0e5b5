use Rattle.std.proofs.Common.{All, take}
use Rattle.td_accesses.specs.ForProofs.Depending.{DependsOnOther, IsGrown}
use Rattle.td_accesses.proofs.dependencies.add_dependencies.Given as goal

abbrev pub invariant-loop-other : goal.invariant-loop-other
invariant-loop-other l = record {
  kept : IsGrown l.initial.dependencies l.dependencies;
  depends : All (DependsOnOther l.catalogue l.relvar l.expr.tree l.dependencies) (take l.other-index l.others);
}
