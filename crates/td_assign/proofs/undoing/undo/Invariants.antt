use Rattle.std.proofs.Common.{drop}
use Rattle.td_relvars.specs.Changed.{inverses}
use Rattle.td_assign.proofs.Remaking.{Made}
use Rattle.td_assign.proofs.undoing.undo.Given as goal

abbrev pub invariant-loop-relvar : goal.invariant-loop-relvar
invariant-loop-relvar l = Made l.initial.database (inverses l.delta) (inverses (drop l.relvar-index l.delta)) l.database
