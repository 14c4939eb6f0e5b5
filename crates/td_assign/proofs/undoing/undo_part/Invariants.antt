use Rattle.std.proofs.Common.{◌≡◌, drop}
use Rattle.td_assign.proofs.PartUndone.{Undone}
use Rattle.td_assign.proofs.undoing.undo_part.Given as goal

abbrev pub invariant-loop-relvar : goal.invariant-loop-relvar
invariant-loop-relvar l = record {
  undone : Undone l.initial.part.copies l.delta (drop l.relvar-index l.delta) l.part.copies;
  keys : l.part.keys ≡ l.initial.part.keys;
}
