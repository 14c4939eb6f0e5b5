use Rattle.std.proofs.Common.{◌≤◌, ◌+◌, take}
use Rattle.td_replay.specs.ForProofs.Told.{IsLogged}
use Rattle.td_replay.proofs.told.tell_all.Given as goal

abbrev pub invariant-loop-entry : goal.invariant-loop-entry
invariant-loop-entry l = record {
  logged : IsLogged l.script (take l.entry-index l.entries) l.told.log.items l.told.engine;
  counted : l.meter.count ≤ l.initial.meter.count + l.entry-index;
}
