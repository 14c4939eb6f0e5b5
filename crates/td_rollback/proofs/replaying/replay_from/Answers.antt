use Rattle.std.proofs.Common.{List, [], drop, take, sym, subst, ◌∙◌}
use Rattle.td_stamps.specs.declared.entry.Entry.{Entry as EntryData}
use Rattle.td_stamps.specs.declared.entry.Stamp.{Stamp}
use Rattle.td_stamps.specs.History.{History}
use Rattle.td_stamps.proofs.Histories as histories
use Rattle.td_rollback.specs.Going.{AreAlikeBut, SoundFrom}
use Rattle.td_rollback.specs.Touched.{AreMore, Runs}
use Rattle.td_rollback.specs.Turns.{settled}
use Rattle.td_rollback.proofs.Ends as ends
use Rattle.td_rollback.proofs.More.{more_behind}
use Rattle.td_rollback.proofs.replaying.replay_from.Goals as goal

pub returns-in_err-undo_end-clause-elsewhere : goal.returns-in_err-undo_end-clause-elsewhere
returns-in_err-undo_end-clause-elsewhere g c =
    let m = g.M.Machine in
    ends.alike_behind (m.targets (m.origin c.args.machine.now)) m.alike (drop c.args.kept c.args.old.now) (drop c.args.kept c.args.new.now) (more_behind c.args.kept c.args.old.now c.args.new.now c.requires.alike c.requires.more) c.args.machine.now c.undo_end.new.machine c.undo_end.ensures.elsewhere

pub replay_end-requires-clause-sound : goal.replay_end-requires-clause-sound
replay_end-requires-clause-sound g c =
    let m = g.M.Machine in
    let first = c.requires.history.0 in
    let front = c.in_ok-undo_end.ensures.front first c.requires.history.1 in
    let goes = g.met.M.Machine.goes (m.origin c.undo_end.new.machine) in
    let both = histories.kept m.steps (SoundFrom m.sound m.origin (m.origin c.undo_end.new.machine)) (λ s t e r step h. goes.stay_sound s t e r h step) first c.undo_end.new.machine (take c.args.kept c.args.old.now) (take c.args.kept c.args.log.now) front.history (front.sound, front.origin_is) in
    both.0

pub replay_end-requires-clause-more : goal.replay_end-requires-clause-more
replay_end-requires-clause-more g c =
    subst (λ (fs : List EntryData). AreMore c.split_at.result.1.now fs) (sym c.split_at-3.ensures.back)
    (subst (λ (es : List EntryData). AreMore es (drop c.args.kept c.args.new.now)) (sym c.split_at.ensures.back)
    (more_behind c.args.kept c.args.old.now c.args.new.now c.requires.alike c.requires.more))

pub returns-clause-history : goal.returns-clause-history
returns-clause-history g c = λ o begun.
    let m = g.M.Machine in
    let front = c.in_ok-undo_end.ensures.front o begun in
    ends.if_more c.replay_end.result _ _
    (λ turns h.
    let told = ends.with_front m.steps o c.undo_end.new.machine c.replay_end.new.machine c.args.old.now c.args.new.now c.args.kept (take c.args.kept c.args.log.now) (settled (drop c.args.kept c.args.log.now) turns.items)
    c.requires.alike front.history
    (subst (λ (qs : List (Stamp × g.row.M-Record.Denot)). History m.steps c.undo_end.new.machine (drop c.args.kept c.args.new.now) (settled qs turns.items) c.replay_end.new.machine) c.split_at-2.ensures.back
    (subst (λ (fs : List EntryData). History m.steps c.undo_end.new.machine fs (settled c.split_at-2.result.1.now turns.items) c.replay_end.new.machine) c.split_at-3.ensures.back h)) in
    record { sound = begun.sound; origin_is = front.origin_is ∙ sym c.replay_end.ensures.origin; history = told })
    c.replay_end.ensures.history

pub returns-clause-counted : goal.returns-clause-counted
returns-clause-counted g c = λ n runs.
    let m = g.M.Machine in
    c.replay_end.ensures.counted n
    (subst (λ (o : g.row.M.Denot). Runs (m.footprint o) (m.targets o) [] c.split_at.result.1.now c.split_at-3.result.1.now n) (sym c.undo_end.ensures.origin)
    (subst (λ (fs : List EntryData). Runs (m.footprint (m.origin c.args.machine.now)) (m.targets (m.origin c.args.machine.now)) [] c.split_at.result.1.now fs n) (sym c.split_at-3.ensures.back)
    (subst (λ (es : List EntryData). Runs (m.footprint (m.origin c.args.machine.now)) (m.targets (m.origin c.args.machine.now)) [] es (drop c.args.kept c.args.new.now) n) (sym c.split_at.ensures.back)
    (ends.runs_behind (m.footprint (m.origin c.args.machine.now)) (m.targets (m.origin c.args.machine.now)) c.args.kept c.args.old.now c.args.new.now n c.requires.alike runs))))

pub returns-clause-elsewhere : goal.returns-clause-elsewhere
returns-clause-elsewhere g c =
    let m = g.M.Machine in
    let o = m.origin c.args.machine.now in
    let more = more_behind c.args.kept c.args.old.now c.args.new.now c.requires.alike c.requires.more in
    let before = ends.alike_behind (m.targets o) m.alike (drop c.args.kept c.args.old.now) (drop c.args.kept c.args.new.now) more c.args.machine.now c.undo_end.new.machine c.undo_end.ensures.elsewhere in
    let after = subst (λ (q : g.row.M.Denot). AreAlikeBut m.alike (m.targets q) (drop c.args.kept c.args.new.now) c.undo_end.new.machine c.replay_end.new.machine) c.undo_end.ensures.origin
    (subst (λ (fs : List EntryData). AreAlikeBut m.alike (m.targets (m.origin c.undo_end.new.machine)) fs c.undo_end.new.machine c.replay_end.new.machine) c.split_at-3.ensures.back c.replay_end.ensures.elsewhere) in
    λ n never. (g.met.M.Machine.goes o).alike_through c.args.machine.now c.undo_end.new.machine c.replay_end.new.machine n (before n never) (after n never)
