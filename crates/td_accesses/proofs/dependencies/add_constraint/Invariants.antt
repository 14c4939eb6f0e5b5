use Rattle.std.proofs.Common.{All, take}
use Rattle.td_accesses.specs.ForProofs.Depending.{AreAllGrown, TellsAll}
use Rattle.td_accesses.proofs.dependencies.add_constraint.Given as goal

abbrev pub invariant-loop-relvar : goal.invariant-loop-relvar
invariant-loop-relvar l = record {
  kept : AreAllGrown l.initial.all.items l.all.items;
  told : All (TellsAll l.catalogue l.expr.tree l.all.items) (take l.relvar-index l.relvars);
}
