use Rattle.std.proofs.Common.{ℕ, take}
use Rattle.std.specs.List.{Contains}
use Rattle.td_rollback.specs.Touched.{IsTargetOf}
use Rattle.td_rollback.proofs.replaying.places_beside.Given as goal

abbrev pub invariant-loop-record : goal.invariant-loop-record
invariant-loop-record g l = record {
  old : (n : ℕ) → IsTargetOf (g.M.Machine.targets (g.M.Machine.origin l.machine)) (take l.record-index l.old) n → Contains l.places.items n;
  fresh : (n : ℕ) → Contains l.fresh n → Contains l.places.items n;
}
