use Rattle.td_rollback.specs.Going.{SoundFrom}
use Rattle.td_rollback.proofs.Commuting.{interleaved_is_history, marked_come_last}
use Rattle.td_rollback.proofs.laws.commuting_entries_part.Goals as goal

pub returns-clause-last : goal.returns-clause-last
returns-clause-last g c = λ o.
    let m = g.M.Machine in
    marked_come_last (SoundFrom m.sound m.origin o) m.steps (m.commute o) (g.met.M.Machine.goes o).stay_sound (g.met.M.Machine.commutes o)

pub returns-clause-interleaved : goal.returns-clause-interleaved
returns-clause-interleaved g c = λ o.
    let m = g.M.Machine in
    interleaved_is_history (SoundFrom m.sound m.origin o) m.steps (m.commute o) (g.met.M.Machine.goes o).stay_sound (g.met.M.Machine.commutes o)
