use Rattle.td_rollback.specs.Going.{SoundFrom}
use Rattle.td_rollback.proofs.Recorded.{records_name}
use Rattle.td_rollback.proofs.laws.records_name.Goals as goal

pub returns-clause-footprint : goal.returns-clause-footprint
returns-clause-footprint g c = λ o.
    let m = g.M.Machine in
    let goes = g.met.M.Machine.goes o in
    records_name (SoundFrom m.sound m.origin o) m.steps (m.footprint o) m.footprint_in goes.stay_sound goes.name_footprint

pub returns-clause-targets : goal.returns-clause-targets
returns-clause-targets g c = λ o.
    let m = g.M.Machine in
    let goes = g.met.M.Machine.goes o in
    records_name (SoundFrom m.sound m.origin o) m.steps (m.targets o) m.targets_in goes.stay_sound goes.name_targets
