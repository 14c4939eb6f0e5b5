use Rattle.std.proofs.Common.{drop}
use Rattle.td_assign.proofs.Remaking.{Made}
use Rattle.td_assign.proofs.undoing.redo.Given as goal

abbrev pub invariant-loop-relvar : goal.invariant-loop-relvar
invariant-loop-relvar l = Made l.initial.database l.delta (drop l.relvar-index l.delta) l.database
