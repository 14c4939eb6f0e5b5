use Rattle.std.proofs.Common.{◌≡◌, ◌++◌, [], List, ap, sym, subst, ◌∙◌}
use Rattle.td_stamps.specs.declared.entry.Entry.{Entry}
use Rattle.td_stamps.specs.declared.entry.Stamp.{Stamp}
use Rattle.td_rollback.specs.Going.{Begins}
use Rattle.td_rollback.specs.Parts.{marked, unmarked, interleaved}
use Rattle.td_rollback.specs.Touched.{Runs}
use Rattle.td_rollback.specs.Turns.{replayed_log}
use Rattle.td_rollback.specs.ForProofs.Marked.{AreAmong}
use Rattle.td_rollback.proofs.Parting.{interleaved_back}
use Rattle.td_rollback.proofs.replaying.replay_parted.Goals as goal

pub returns-in-Ok-clause-history : goal.returns-in-Ok-clause-history
returns-in-Ok-clause-history g c =
    let m = g.M.Machine in
    let log = c.args.log.now.items in
    let bs = c.args.told.marks.items in
    let marks_is = c.deref.ensures.value in
    let log_is = ap (λ v. v.items) c.replace-records.ensures.value in
    let within : c.split-within.result.0.items ≡ marked bs log = c.split-within.ensures.marked ∙ (λ i. c.in_ok-within.ensures.items i ++ marked (marks_is i) (log_is i)) in
    let without : c.split-within.result.1.items ≡ unmarked bs log = c.split-within.ensures.unmarked ∙ (λ i. c.in_ok-without.ensures.items i ++ unmarked (marks_is i) (log_is i)) in
    let slice = c.deref-3.ensures.value in
    let kept = c.in-Ok.field-0.kept in
    let turns = c.in-Ok.field-0.turns.items in
    let records = c.settle-within.result.items in
    let records_is : records ≡ replayed_log c.deref-3.result.now kept turns = c.settle-within.ensures ∙ (λ i. c.in_ok-room.ensures.items i ++ replayed_log (sym slice i) kept turns) in (
      records,
      c.interleave.ensures ∙ (λ i. c.in_ok-log_room.ensures.items i ++ interleaved (c.deref-in-Ok.ensures.value i) records (without i)),
      λ o begun.
          let from = subst (λ (ps : List (Stamp × g.row.M-Record.Denot)). Begins m.sound m.origin m.steps o c.deref-2.result.now ps c.args.machine.now) (sym (slice ∙ within))
          (subst (λ (es : List Entry). Begins m.sound m.origin m.steps o es (marked bs log) c.args.machine.now) (sym c.deref-2.ensures.value) begun) in
          let to = c.in-Ok.ensures.history o from in
          subst (λ (ps : List (Stamp × g.row.M-Record.Denot)). Begins m.sound m.origin m.steps o c.args.all.entries.items ps c.replay_part.new.machine) (sym records_is)
          (subst (λ (es : List Entry). Begins m.sound m.origin m.steps o es (replayed_log c.deref-3.result.now kept turns) c.replay_part.new.machine) c.deref-4.ensures.value to),
    )

pub returns-in-Ok-clause-counted : goal.returns-in-Ok-clause-counted
returns-in-Ok-clause-counted g c = λ n runs.
    let m = g.M.Machine in
    let o = m.origin c.args.machine.now in
    c.replay_part.ensures.counted n
    (subst (λ (es : List Entry). Runs (m.footprint o) (m.targets o) [] c.deref-2.result.now es n) (sym c.deref-4.ensures.value)
    (subst (λ (es : List Entry). Runs (m.footprint o) (m.targets o) [] es c.args.all.entries.items n) (sym c.deref-2.ensures.value) runs))

pub returns-clause-counted : goal.returns-clause-counted
returns-clause-counted g c = λ n runs.
    let m = g.M.Machine in
    let o = m.origin c.args.machine.now in
    c.replay_part.ensures.counted n
    (subst (λ (es : List Entry). Runs (m.footprint o) (m.targets o) [] c.deref-2.result.now es n) (sym c.deref-4.ensures.value)
    (subst (λ (es : List Entry). Runs (m.footprint o) (m.targets o) [] es c.args.all.entries.items n) (sym c.deref-2.ensures.value) runs))

pub returns-clause-kept : goal.returns-clause-kept
returns-clause-kept g c =
    let log = c.args.log.now.items in
    let bs = c.args.told.marks.items in
    let marks_is = c.deref.ensures.value in
    let log_is = ap (λ v. v.items) c.replace-records.ensures.value in
    let within : c.split-within.result.0.items ≡ marked bs log = c.split-within.ensures.marked ∙ (λ i. c.in_ok-within.ensures.items i ++ marked (marks_is i) (log_is i)) in
    let without : c.split-within.result.1.items ≡ unmarked bs log = c.split-within.ensures.unmarked ∙ (λ i. c.in_ok-without.ensures.items i ++ unmarked (marks_is i) (log_is i)) in (
      c.in-Err.ensures.kept,
      c.interleave-in-Err.ensures ∙ (λ i. c.in_ok-log_room.ensures.items i ++ interleaved (c.deref-in-Err.ensures.value i) (within i) (without i)) ∙ interleaved_back bs log c.requires.each,
    )

pub replay_part-requires-clause-fresh : goal.replay_part-requires-clause-fresh
replay_part-requires-clause-fresh g c =
    let m = g.M.Machine in
    let o = m.origin c.args.machine.now in
    subst (λ (es : List Entry). AreAmong (m.targets o) es c.deref-4.result.now c.args.fresh.now) (sym c.deref-2.ensures.value)
    (subst (λ (fs : List Entry). AreAmong (m.targets o) c.args.told.entries.items fs c.args.fresh.now) (sym c.deref-4.ensures.value) c.requires.fresh)
