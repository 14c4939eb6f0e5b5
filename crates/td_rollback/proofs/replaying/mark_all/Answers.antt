use Rattle.std.proofs.Common.{◌≡◌, true, Bool, List, inl, inr, ⊎_elim, ap, sym, subst, ◌∙◌}
use Rattle.td_stamps.specs.declared.entry.Entry.{Entry}
use Rattle.td_stamps.specs.Sets.{has}
use Rattle.td_stamps.proofs.Histories as histories
use Rattle.td_rollback.specs.Parts.{marked}
use Rattle.td_rollback.specs.ForProofs.Marked.{MarkConflicts, with_flagged}
use Rattle.td_rollback.proofs.Parting.{as_many_marks, came, parted}
use Rattle.td_rollback.proofs.replaying.mark_all.Goals as goal

pub mark_conflicting-requires-clause-each : goal.mark_conflicting-requires-clause-each
mark_conflicting-requires-clause-each g c =
    let m = g.M.Machine in
    histories.as_many m.steps c.requires.history.0 c.args.machine.now c.args.old.now c.args.log.now c.requires.history.1.history

pub returns-clause-parted : goal.returns-clause-parted
returns-clause-parted g c =
    let m = g.M.Machine in
    let o = m.origin c.args.machine.now in
    let old = c.args.old.now in
    let new = c.args.new.now in
    let flags = c.in_ok-fresh.fresh.marks.items in
    let bs = c.in_ok-told.told.marks.items in
    let cs = c.in_ok-told.all.marks.items in
    let these = m.covers o c.in_ok-read.read.accesses in
    let marks = subst (λ (xs : List Bool). MarkConflicts (m.commute o) these xs old) {x = c.in_ok-marks.marks.items} (sym c.in_ok-told.ensures.old_marks) c.in_ok-marks.ensures in
    let cs_is = c.in_ok-told.ensures.new_marks ∙ ap (with_flagged flags) (sym c.in_ok-told.ensures.old_marks) in
    let fresh_is : c.deref.result.now ≡ marked flags new = c.deref.ensures.value ∙ c.in_ok-fresh.ensures.entries in
    let fresh = λ (x : Entry) (h : has (marked flags new) x ≡ true). c.in_ok-read.ensures.covered x (subst (λ (es : List Entry). has es x ≡ true) {x = marked flags new} (sym fresh_is) h) in
    parted (m.commute o) these old new flags bs cs c.in_ok-fresh.ensures.flags marks cs_is fresh

pub returns-clause-fresh : goal.returns-clause-fresh
returns-clause-fresh g c = λ e n h t.
    let m = g.M.Machine in
    let o = m.origin c.args.machine.now in
    let old = c.args.old.now in
    let new = c.args.new.now in
    let p = returns-clause-parted g c in
    let flags = c.in_ok-fresh.fresh.marks.items in
    let bs = c.in_ok-told.told.marks.items in
    let fresh_is : c.deref.result.now ≡ marked flags new = c.deref.ensures.value ∙ c.in_ok-fresh.ensures.entries in
    let marks_is = sym c.in_ok-told.ensures.old_marks in
    let all_is : c.in_ok-told.all.entries.items ≡ marked (with_flagged flags bs) new = c.in_ok-told.ensures.new ∙ ap (λ (xs : List Bool). marked xs new) (c.in_ok-told.ensures.new_marks ∙ ap (with_flagged flags) marks_is) in
    let told_is : c.in_ok-told.told.entries.items ≡ marked bs old = c.in_ok-told.ensures.old ∙ ap (λ (xs : List Bool). marked xs old) marks_is in
    let here : has (marked (with_flagged flags bs) new) e ≡ true = subst (λ (es : List Entry). has es e ≡ true) all_is h in
    ⊎_elim (λ told. inl (subst (λ (es : List Entry). has es e ≡ true) (sym told_is) told))
    (λ flagged. inr (c.in_ok-read.ensures.places n (e, subst (λ (es : List Entry). has es e ≡ true) (sym fresh_is) flagged, (g.met.M.Machine.goes o).hang_on_targets e n t)))
    (came old new flags bs c.in_ok-fresh.ensures.flags (as_many_marks (m.commute o) bs old p.old) e here)
