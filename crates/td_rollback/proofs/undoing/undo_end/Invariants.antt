use Rattle.std.proofs.Common.{◌≡◌, ◌≤◌, length, drop, take}
use Rattle.td_stamps.specs.History.{History}
use Rattle.td_rollback.specs.Going.{AreAlikeBut, Begins}
use Rattle.td_rollback.proofs.undoing.undo_end.Given as goal

abbrev pub invariant-loop-left : goal.invariant-loop-left
invariant-loop-left g l = record {
  within : l.left ≤ length l.old;
  kept : l.kept ≤ l.left;
  front : (o : g.row.M.Denot) → Begins g.M.Machine.sound g.M.Machine.origin g.M.Machine.steps o l.old l.log l.fn.machine → Begins g.M.Machine.sound g.M.Machine.origin g.M.Machine.steps o (take l.left l.old) (take l.left l.log) l.machine;
  behind : History g.M.Machine.steps l.machine (drop l.left l.old) (drop l.left l.log) l.fn.machine;
  elsewhere : AreAlikeBut g.M.Machine.alike (g.M.Machine.targets (g.M.Machine.origin l.fn.machine)) (drop l.kept l.old) l.fn.machine l.machine;
  origin : g.M.Machine.origin l.machine ≡ g.M.Machine.origin l.fn.machine;
}

abbrev pub decreases-loop-left : goal.decreases-loop-left
decreases-loop-left g l = l.left
