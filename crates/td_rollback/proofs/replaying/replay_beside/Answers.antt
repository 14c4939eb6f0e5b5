use Rattle.std.proofs.Common.{◌≡◌, ◌++◌, [], List, drop, length, take, ap, sym, subst, ◌∙◌, arith}
use Rattle.td_stamps.specs.declared.entry.Entry.{Entry}
use Rattle.td_stamps.specs.declared.entry.Stamp.{Stamp}
use Rattle.td_stamps.proofs.Histories as histories
use Rattle.td_rollback.specs.Going.{Begins}
use Rattle.td_rollback.specs.Parts.{interleaved}
use Rattle.td_rollback.specs.Touched.{Runs}
use Rattle.td_rollback.specs.Turns.{replayed_log}
use Rattle.td_rollback.proofs.replaying.replay_beside.Goals as goal

pub insert_marked-requires-clause-room : goal.insert_marked-requires-clause-room
insert_marked-requires-clause-room g c =
    let m = g.M.Machine in
    let front = c.in-Ok.field-0.kept in
    let turns = c.in-Ok.field-0.turns.items in
    let records = c.settle-records.result.items in
    let records_are : records ≡ replayed_log c.deref-2.result.now front turns = c.settle-records.ensures ∙ (λ i. c.in_ok-room.ensures.items i ++ replayed_log (sym c.deref-2.ensures.value i) front turns) in
    let o = c.requires.history.0 in
    let from = subst (λ (ps : List (Stamp × g.row.M-Record.Denot)). Begins m.sound m.origin m.steps o c.deref.result.now ps c.args.machine.now) (sym (c.deref-2.ensures.value ∙ c.new-old.ensures.items))
    (subst (λ (es : List Entry). Begins m.sound m.origin m.steps o es [] c.args.machine.now) (sym (c.deref.ensures.value ∙ c.new-none.ensures.items)) c.requires.history.1) in
    let to = c.in-Ok.ensures.history o from in
    let many = ap length records_are ∙ histories.as_many m.steps o c.replay_part.new.machine c.deref-3.result.now (replayed_log c.deref-2.result.now front turns) to.history ∙ ap length c.deref-3.ensures.value in
    let room = c.in_ok-reserve.ensures.ok in
    let here = c.reserve.new.self.ok.0 in
    let marked = c.args.all.entries.ok.0 in
    let len = c.len-2.ensures in
    omega (arith, many, room, here, marked, len)

pub returns-in-Ok-clause-history : goal.returns-in-Ok-clause-history
returns-in-Ok-clause-history g c =
    let m = g.M.Machine in
    let front = c.in-Ok.field-0.kept in
    let turns = c.in-Ok.field-0.turns.items in
    let records = c.settle-records.result.items in
    let records_are : records ≡ replayed_log c.deref-2.result.now front turns = c.settle-records.ensures ∙ (λ i. c.in_ok-room.ensures.items i ++ replayed_log (sym c.deref-2.ensures.value i) front turns) in (
      records,
      c.insert_marked.ensures ∙ (λ i. take c.args.kept (c.in_ok-reserve.ensures.items i) ++ interleaved (c.deref-in-Ok.ensures.value i) records (drop c.args.kept (c.in_ok-reserve.ensures.items i))),
      λ o begun.
          let from = subst (λ (ps : List (Stamp × g.row.M-Record.Denot)). Begins m.sound m.origin m.steps o c.deref.result.now ps c.args.machine.now) (sym (c.deref-2.ensures.value ∙ c.new-old.ensures.items))
          (subst (λ (es : List Entry). Begins m.sound m.origin m.steps o es [] c.args.machine.now) (sym (c.deref.ensures.value ∙ c.new-none.ensures.items)) begun) in
          let to = c.in-Ok.ensures.history o from in
          subst (λ (ps : List (Stamp × g.row.M-Record.Denot)). Begins m.sound m.origin m.steps o c.args.all.entries.items ps c.replay_part.new.machine) (sym records_are)
          (subst (λ (es : List Entry). Begins m.sound m.origin m.steps o es (replayed_log c.deref-2.result.now front turns) c.replay_part.new.machine) c.deref-3.ensures.value to),
    )

pub returns-in-Ok-clause-counted : goal.returns-in-Ok-clause-counted
returns-in-Ok-clause-counted g c = λ n runs.
    let m = g.M.Machine in
    let o = m.origin c.args.machine.now in
    c.replay_part.ensures.counted n
    (subst (λ (es : List Entry). Runs (m.footprint o) (m.targets o) [] c.deref.result.now es n) (sym c.deref-3.ensures.value)
    (subst (λ (es : List Entry). Runs (m.footprint o) (m.targets o) [] es c.args.all.entries.items n) (sym (c.deref.ensures.value ∙ c.new-none.ensures.items)) runs))
