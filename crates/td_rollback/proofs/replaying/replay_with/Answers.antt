use Rattle.std.proofs.Common.{[], List, drop, take, sym, subst, ◌∙◌, arith}
use Rattle.td_stamps.specs.declared.entry.Entry.{Entry}
use Rattle.td_stamps.specs.declared.entry.Stamp.{Stamp}
use Rattle.td_stamps.specs.History.{History}
use Rattle.td_stamps.proofs.Histories as histories
use Rattle.td_rollback.specs.Going.{Begins, SoundFrom}
use Rattle.td_rollback.specs.Touched.{AreMore, Runs}
use Rattle.td_rollback.proofs.Ends as ends
use Rattle.td_rollback.proofs.More.{more_behind}
use Rattle.td_rollback.proofs.Parting as parting
use Rattle.td_rollback.proofs.replaying.replay_with.Goals as goal

pub replay_differing_end-requires-clause-history : goal.replay_differing_end-requires-clause-history
replay_differing_end-requires-clause-history g c =
    let m = g.M.Machine in
    let o = m.origin c.args.machine.now in
    let kept = c.common_of-kept.result in
    let log = c.args.log.now.items in
    let b = c.requires.history.1 in
    let two = parting.cut m.steps c.requires.history.0 c.args.machine.now c.args.old.now log b.history kept in
    let sound : SoundFrom m.sound m.origin o two.0 = histories.kept m.steps (SoundFrom m.sound m.origin o) (λ s t e r step h. (g.met.M.Machine.goes o).stay_sound s t e r h step) c.requires.history.0 two.0 (take kept c.args.old.now) (take kept log) two.1 (b.sound, b.origin_is) in (
      two.0,
      record { sound = sound.0; origin_is = sound.1; history = subst (λ (es : List Entry). History m.steps two.0 es (drop kept log) c.args.machine.now) (sym c.split_at.ensures.back) two.2 },
    )

pub replay_differing_end-requires-clause-front : goal.replay_differing_end-requires-clause-front
replay_differing_end-requires-clause-front g c =
    let m = g.M.Machine in
    let each = histories.as_many m.steps c.requires.history.0 c.args.machine.now c.args.old.now c.args.log.now.items c.requires.history.1.history in
    let le = c.common_of-kept.ensures.in_old in
    omega (arith, each, le)

pub replay_differing_end-requires-clause-more : goal.replay_differing_end-requires-clause-more
replay_differing_end-requires-clause-more g c =
    subst (λ (fs : List Entry). AreMore c.split_at.result.1.now fs) (sym c.split_at-2.ensures.back)
    (subst (λ (es : List Entry). AreMore es (drop c.common_of-kept.result c.args.new.now)) (sym c.split_at.ensures.back)
    (more_behind c.common_of-kept.result c.args.old.now c.args.new.now c.common_of-kept.ensures.alike c.requires.more))

pub returns-clause-history : goal.returns-clause-history
returns-clause-history g c = λ first b.
    let m = g.M.Machine in
    let o = m.origin c.args.machine.now in
    let kept = c.common_of-kept.result in
    let log = c.args.log.now.items in
    let end = c.replay_differing_end.new.machine in
    let two = parting.cut m.steps first c.args.machine.now c.args.old.now log b.history kept in
    let sound : SoundFrom m.sound m.origin o two.0 = histories.kept m.steps (SoundFrom m.sound m.origin o) (λ s t e r step h. (g.met.M.Machine.goes o).stay_sound s t e r h step) first two.0 (take kept c.args.old.now) (take kept log) two.1 (b.sound, b.origin_is) in
    let from : Begins m.sound m.origin m.steps two.0 c.split_at.result.1.now (drop kept log) c.args.machine.now =
    record { sound = sound.0; origin_is = sound.1; history = subst (λ (es : List Entry). History m.steps two.0 es (drop kept log) c.args.machine.now) (sym c.split_at.ensures.back) two.2 } in
    parting.on_ok c.replay_differing_end.result (λ ran.
    let to = ran.2 two.0 from in
    let behind = subst (λ (fs : List Entry). History m.steps two.0 fs ran.0 end) c.split_at-2.ensures.back to.history in
    let told = ends.with_front m.steps first two.0 end c.args.old.now c.args.new.now kept (take kept log) ran.0 c.common_of-kept.ensures.alike two.1 behind in
    record {
      sound = b.sound;
      origin_is = b.origin_is ∙ sym c.replay_differing_end.ensures.origin;
      history = subst (λ (ps : List (Stamp × g.row.M-Record.Denot)). History m.steps first c.args.new.now ps end) (sym ran.1) told;
    })
    c.replay_differing_end.ensures.history

pub returns-clause-counted : goal.returns-clause-counted
returns-clause-counted g c = λ n runs.
    let m = g.M.Machine in
    let o = m.origin c.args.machine.now in
    let kept = c.common_of-kept.result in
    c.replay_differing_end.ensures.counted n
    (subst (λ (fs : List Entry). Runs (m.footprint o) (m.targets o) [] c.split_at.result.1.now fs n) (sym c.split_at-2.ensures.back)
    (subst (λ (es : List Entry). Runs (m.footprint o) (m.targets o) [] es (drop kept c.args.new.now) n) (sym c.split_at.ensures.back)
    (ends.runs_behind (m.footprint o) (m.targets o) kept c.args.old.now c.args.new.now n c.common_of-kept.ensures.alike runs)))
