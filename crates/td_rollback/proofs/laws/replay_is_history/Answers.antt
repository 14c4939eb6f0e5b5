use Rattle.td_rollback.specs.ForProofs.Ways.{way_of}
use Rattle.td_rollback.proofs.Selecting as selecting
use Rattle.td_rollback.proofs.laws.replay_is_history.Goals as goal

pub returns : goal.returns
returns g c = λ o. let m = g.M.Machine in selecting.replay_is_history (way_of m.sound m.steps m.alike m.origin m.footprint m.targets m.footprint_in m.targets_in g.met.M.Machine.goes o)
