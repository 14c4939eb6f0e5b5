use Rattle.std.proofs.Common.{◌≡◌, [], Bool, List, drop, length, ap, sym, subst, ◌∙◌, arith}
use Rattle.td_stamps.specs.declared.entry.Entry.{Entry}
use Rattle.td_stamps.specs.History.{History}
use Rattle.td_stamps.proofs.Histories as histories
use Rattle.td_rollback.specs.Going.{Begins, SoundFrom}
use Rattle.td_rollback.specs.Parts.{marked, unmarked, interleaved}
use Rattle.td_rollback.specs.Touched.{AreMore, Runs}
use Rattle.td_rollback.specs.ForProofs.Marked.{with_flagged}
use Rattle.td_rollback.proofs.Commuting as commuting
use Rattle.td_rollback.proofs.Fewer.{bounded}
use Rattle.td_rollback.proofs.Parting as parting
use Rattle.td_rollback.proofs.Unmarked.{as_many_stay}
use Rattle.td_rollback.proofs.replaying.replay_differing_end.Goals as goal

pub replay_marked-requires-clause-history : goal.replay_marked-requires-clause-history
replay_marked-requires-clause-history g c =
    let m = g.M.Machine in
    let o = m.origin c.args.machine.now in
    let p = c.in_ok-told.ensures.parted in
    let es = c.args.old.now in
    let fs = c.args.new.now in
    let bs = c.in_ok-told.told.marks.items in
    let cs = c.in_ok-told.all.marks.items in
    let log = drop c.args.kept c.args.log.now.items in
    let last = c.args.machine.now in
    let Sound = SoundFrom m.sound m.origin o in
    let stay = (g.met.M.Machine.goes o).stay_sound in
    let swaps = g.met.M.Machine.commutes o in
    let b = c.requires.history.1 in
    let parts = commuting.parts Sound m.steps (m.commute o) stay swaps c.requires.history.0 last (b.sound, b.origin_is) es fs bs cs log p b.history in
    let sound = commuting.begun_sound Sound m.steps (m.commute o) stay swaps c.requires.history.0 last (b.sound, b.origin_is) es fs bs cs log p b.history in
    (parts.0, record { sound = sound.0; origin_is = sound.1; history = subst (λ (ds : List Entry). History m.steps parts.0 ds (marked bs log) last) {x = marked bs es} (sym c.in_ok-told.ensures.old) parts.2 })

pub replay_marked-requires-clause-more : goal.replay_marked-requires-clause-more
replay_marked-requires-clause-more g c =
    let m = g.M.Machine in
    let o = m.origin c.args.machine.now in
    let p = c.in_ok-told.ensures.parted in
    let es = c.args.old.now in
    let fs = c.args.new.now in
    let bs = c.in_ok-told.told.marks.items in
    let cs = c.in_ok-told.all.marks.items in
    let log = drop c.args.kept c.args.log.now.items in
    let last = c.args.machine.now in
    let more = parting.marked_more es fs p.flags bs p.flagged (parting.as_many_marks (m.commute o) bs es p.old) c.requires.more in
    subst (λ (ds : List Entry). AreMore c.in_ok-told.told.entries.items ds) (sym (c.in_ok-told.ensures.new ∙ ap (λ (xs : List Bool). marked xs fs) p.marks_are))
    (subst (λ (ds : List Entry). AreMore ds (marked (with_flagged p.flags bs) fs)) (sym c.in_ok-told.ensures.old) more)

pub replay_marked-requires-clause-each : goal.replay_marked-requires-clause-each
replay_marked-requires-clause-each g c =
    let m = g.M.Machine in
    let o = m.origin c.args.machine.now in
    let p = c.in_ok-told.ensures.parted in
    let es = c.args.old.now in
    let fs = c.args.new.now in
    let bs = c.in_ok-told.told.marks.items in
    let cs = c.in_ok-told.all.marks.items in
    let log = drop c.args.kept c.args.log.now.items in
    let last = c.args.machine.now in
    parting.as_many_marks (m.commute o) bs es p.old ∙ sym (histories.as_many m.steps c.requires.history.0 last es log c.requires.history.1.history)

pub replay_marked-requires-clause-told : goal.replay_marked-requires-clause-told
replay_marked-requires-clause-told g c =
    let m = g.M.Machine in
    let p = c.in_ok-told.ensures.parted in
    let es = c.args.old.now in
    (es, c.in_ok-told.ensures.old, sym (parting.as_many_marks (m.commute (m.origin c.args.machine.now)) c.in_ok-told.told.marks.items es p.old))

pub replay_marked-requires-clause-others : goal.replay_marked-requires-clause-others
replay_marked-requires-clause-others g c =
    let m = g.M.Machine in
    let o = m.origin c.args.machine.now in
    let p = c.in_ok-told.ensures.parted in
    let es = c.args.old.now in
    let fs = c.args.new.now in
    let bs = c.in_ok-told.told.marks.items in
    let cs = c.in_ok-told.all.marks.items in
    let log = drop c.args.kept c.args.log.now.items in
    let last = c.args.machine.now in
    let each = parting.as_many_marks (m.commute o) bs es p.old in
    as_many_stay bs log es (histories.as_many m.steps c.requires.history.0 last es log c.requires.history.1.history)
    ∙ ap length (sym (parting.unmarked_same es fs p.flags bs p.flagged each) ∙ ap (λ (xs : List Bool). unmarked xs fs) (sym p.marks_are))
    ∙ as_many_stay cs fs cs (sym (parting.as_many_marks (m.commute o) cs fs p.new))

pub returns-clause-history : goal.returns-clause-history
returns-clause-history g c =
    let m = g.M.Machine in
    let o = m.origin c.args.machine.now in
    let p = c.in_ok-told.ensures.parted in
    let es = c.args.old.now in
    let fs = c.args.new.now in
    let bs = c.in_ok-told.told.marks.items in
    let cs = c.in_ok-told.all.marks.items in
    let log = drop c.args.kept c.args.log.now.items in
    let last = c.args.machine.now in
    let Sound = SoundFrom m.sound m.origin o in
    let stay = (g.met.M.Machine.goes o).stay_sound in
    let swaps = g.met.M.Machine.commutes o in
    let end = c.replay_marked.new.machine in
    parting.on_ok c.replay_marked.result (λ ran. (
      interleaved cs ran.0 (unmarked bs log),
      ran.1,
      λ first b.
          let parts = commuting.parts Sound m.steps (m.commute o) stay swaps first last (b.sound, b.origin_is) es fs bs cs log p b.history in
          let sound = commuting.begun_sound Sound m.steps (m.commute o) stay swaps first last (b.sound, b.origin_is) es fs bs cs log p b.history in
          let from : Begins m.sound m.origin m.steps parts.0 c.in_ok-told.told.entries.items (marked bs log) last =
          record { sound = sound.0; origin_is = sound.1; history = subst (λ (ds : List Entry). History m.steps parts.0 ds (marked bs log) last) {x = marked bs es} (sym c.in_ok-told.ensures.old) parts.2 } in
          let to = ran.2 parts.0 from in
          let told = subst (λ (ds : List Entry). History m.steps parts.0 ds ran.0 end) c.in_ok-told.ensures.new to.history in
          record {
            sound = b.sound;
            origin_is = b.origin_is ∙ sym c.replay_marked.ensures.origin;
            history = commuting.replayed Sound m.steps (m.commute o) stay swaps first last (b.sound, b.origin_is) es fs bs cs log p b.history end ran.0 told;
          },
    ))
    c.replay_marked.ensures.history

pub returns-clause-counted : goal.returns-clause-counted
returns-clause-counted g c = λ n runs.
    let m = g.M.Machine in
    let o = m.origin c.args.machine.now in
    let p = c.in_ok-told.ensures.parted in
    let es = c.args.old.now in
    let fs = c.args.new.now in
    let bs = c.in_ok-told.told.marks.items in
    let cs = c.in_ok-told.all.marks.items in
    let log = drop c.args.kept c.args.log.now.items in
    let last = c.args.machine.now in
    let all_is : c.in_ok-told.all.entries.items ≡ marked (with_flagged p.flags bs) fs = c.in_ok-told.ensures.new ∙ ap (λ (xs : List Bool). marked xs fs) p.marks_are in
    bounded (m.footprint o) (m.targets o) es fs p.flags bs n _ _ p.flagged (parting.as_many_marks (m.commute o) bs es p.old) runs (λ k fewer. c.replay_marked.ensures.counted k
    (subst (λ (ds : List Entry). Runs (m.footprint o) (m.targets o) [] c.in_ok-told.told.entries.items ds k) (sym all_is)
    (subst (λ (ds : List Entry). Runs (m.footprint o) (m.targets o) [] ds (marked (with_flagged p.flags bs) fs) k) (sym c.in_ok-told.ensures.old) fewer)))

pub returns-clause-few : goal.returns-clause-few
returns-clause-few g c =
    let cs = c.in_ok-told.all.marks.items in
    let few = c.replay_marked.ensures.few in
    let same = ap length c.in_ok-told.ensures.new in
    let le = parting.fewer_marked cs c.args.new.now in
    omega (arith, few, same, le)
