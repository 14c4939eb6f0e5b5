use Rattle.std.proofs.Common.{◌≡◌, ◌≤◌, length, drop, take}
use Rattle.td_rollback.specs.Going.{AreAlikeBut}
use Rattle.td_rollback.specs.ForProofs.Standing.{Stands}
use Rattle.td_rollback.specs.ForProofs.Ways.{way_of}
use Rattle.td_rollback.proofs.replay.replay_end.Given as goal

abbrev pub invariant-loop-entry : goal.invariant-loop-entry
invariant-loop-entry g l = record {
  within : l.at ≤ length l.old;
  stands : Stands (way_of g.M.Machine.sound g.M.Machine.steps g.M.Machine.alike g.M.Machine.origin g.M.Machine.footprint g.M.Machine.targets g.M.Machine.footprint_in g.M.Machine.targets_in g.met.M.Machine.goes (g.M.Machine.origin l.fn.machine))
      (record { state = l.fn.machine; old = l.old; log = l.log; new = l.new; count = g.M.Machine.count l.fn.meter })
      (record { old = drop l.at l.old; log = drop l.at l.log; before = take l.entry-index l.new; new = drop l.entry-index l.new })
      l.names.items l.turns.items l.machine (g.M.Machine.count l.meter);
  elsewhere : AreAlikeBut g.M.Machine.alike (g.M.Machine.targets (g.M.Machine.origin l.fn.machine)) l.new l.fn.machine l.machine;
  origin : g.M.Machine.origin l.machine ≡ g.M.Machine.origin l.fn.machine;
  many : length l.turns.items ≡ l.entry-index;
}
