use Rattle.std.proofs.Common.{ap, sym, arith}
use Rattle.td_stamps.proofs.Histories as histories
use Rattle.td_rollback.specs.Going.{SoundFrom}
use Rattle.td_rollback.proofs.Counting.{at_most_all}
use Rattle.td_rollback.proofs.replaying.replay_part.Goals as goal

pub save_end-requires-clause-each : goal.save_end-requires-clause-each
save_end-requires-clause-each g c = let m = g.M.Machine in histories.as_many m.steps c.requires.history.0 c.args.machine.now c.args.old.now c.args.log.now c.requires.history.1.history

pub replay_from-requires-clause-each : goal.replay_from-requires-clause-each
replay_from-requires-clause-each g c = let m = g.M.Machine in histories.as_many m.steps c.requires.history.0 c.args.machine.now c.args.old.now c.args.log.now c.requires.history.1.history

pub returns-in-Ok-clause-few : goal.returns-in-Ok-clause-few
returns-in-Ok-clause-few g c =
    let m = g.M.Machine in
    let o = m.origin c.args.machine.now in
    at_most_all (m.footprint o) (m.targets o) c.args.old.now c.args.new.now (m.count c.replay_from.new.meter) (m.count c.args.meter.now) c.requires.more c.replay_from.ensures.counted

pub returns-in-Err-clause-few : goal.returns-in-Err-clause-few
returns-in-Err-clause-few g c =
    let m = g.M.Machine in
    let o = m.origin c.args.machine.now in
    at_most_all (m.footprint o) (m.targets o) c.args.old.now c.args.new.now (m.count c.replay_from.new.meter) (m.count c.args.meter.now) c.requires.more c.replay_from.ensures.counted

pub returns-in-Err-clause-kept : goal.returns-in-Err-clause-kept
returns-in-Err-clause-kept g c =
    let m = g.M.Machine in
    let o = m.origin c.args.machine.now in
    let sound : SoundFrom m.sound m.origin o c.args.machine.now =
    histories.kept m.steps (SoundFrom m.sound m.origin o) (λ s t e r step h. (g.met.M.Machine.goes o).stay_sound s t e r h step) c.requires.history.0 c.args.machine.now c.args.old.now c.args.log.now c.requires.history.1.history
    (c.requires.history.1.sound, c.requires.history.1.origin_is)
    in
    let saved = c.in_ok-part.ensures in
    c.put_back.ensures c.args.machine.now saved.0 sound.0 saved.1 (sym c.replay_from.ensures.origin) (λ n never. c.replay_from.ensures.elsewhere n (λ h. never (saved.2 n h)))

pub returns-in-Err-clause-origin : goal.returns-in-Err-clause-origin
returns-in-Err-clause-origin g c =
    let m = g.M.Machine in
    let o = m.origin c.args.machine.now in
    let sound : SoundFrom m.sound m.origin o c.args.machine.now =
    histories.kept m.steps (SoundFrom m.sound m.origin o) (λ s t e r step h. (g.met.M.Machine.goes o).stay_sound s t e r h step) c.requires.history.0 c.args.machine.now c.args.old.now c.args.log.now c.requires.history.1.history
    (c.requires.history.1.sound, c.requires.history.1.origin_is)
    in
    let saved = c.in_ok-part.ensures in
    ap g.M.Machine.origin (c.put_back.ensures c.args.machine.now saved.0 sound.0 saved.1 (sym c.replay_from.ensures.origin) (λ n never. c.replay_from.ensures.elsewhere n (λ h. never (saved.2 n h))))

pub returns-in-Ok-clause-front : goal.returns-in-Ok-clause-front
returns-in-Ok-clause-front g c =
    let m = g.M.Machine in
    let each = histories.as_many m.steps c.requires.history.0 c.args.machine.now c.args.old.now c.args.log.now c.requires.history.1.history in
    let within = c.common_of-kept.ensures.in_old in
    omega (arith, each, within)

pub put_back-requires : goal.put_back-requires
put_back-requires g c =
    let m = g.M.Machine in
    let o = m.origin c.args.machine.now in
    let sound : SoundFrom m.sound m.origin o c.args.machine.now =
    histories.kept m.steps (SoundFrom m.sound m.origin o) (λ s t e r step h. (g.met.M.Machine.goes o).stay_sound s t e r h step) c.requires.history.0 c.args.machine.now c.args.old.now c.args.log.now c.requires.history.1.history
    (c.requires.history.1.sound, c.requires.history.1.origin_is)
    in
    let saved = c.in_ok-part.ensures in
    (c.args.machine.now, saved.0, sound.0, saved.1, sym c.replay_from.ensures.origin)
