use Rattle.std.proofs.Common.{◌≡◌, ℕ, true, take}
use Rattle.std.specs.List.{Contains}
use Rattle.td_stamps.specs.declared.entry.Entry.{Entry}
use Rattle.td_stamps.specs.Sets.{has}
use Rattle.td_rollback.specs.ForProofs.Standing.{AreRead}
use Rattle.td_rollback.specs.Touched.{IsTargetOf}
use Rattle.td_rollback.proofs.replaying.read_all.Given as goal

abbrev pub invariant-loop-entry : goal.invariant-loop-entry
invariant-loop-entry g l = record {
  places : (n : ℕ) → IsTargetOf (g.M.Machine.footprint (g.M.Machine.origin l.machine)) (take l.entry-index l.entries) n → Contains l.places.items n;
  covered : (e : Entry) → has (take l.entry-index l.entries) e ≡ true → g.M.Machine.covers (g.M.Machine.origin l.machine) l.accesses e;
  read : AreRead (g.M.Machine.is_read (g.M.Machine.origin l.machine)) l.readings.items;
}
