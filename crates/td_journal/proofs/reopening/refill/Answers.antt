use Rattle.std.proofs.Common.{List, ℕ, length, sym, refl, ap, subst, ◌∙◌, ◌≤◌}
use Rattle.td_stamps.specs.declared.entry.Entry.{Entry}
use Rattle.td_replica.specs.Calls.{TakesBatch}
use Rattle.td_journal.specs.Spelling.{journal}
use Rattle.td_journal.proofs.ComesBack.{taken_script}
use Rattle.td_journal.proofs.Fields.{few_said}
use Rattle.td_journal.proofs.reopening.refill.Goals as goal

pub bytes_of-whole-requires-clause-few : goal.bytes_of-whole-requires-clause-few
bytes_of-whole-requires-clause-few g c =
    let (bytes, taken, told) = c.in-Ok.ensures.told in
    subst (λ (es : List Entry). length es ≤ 100000) (sym c.as_slice-2.ensures.value) (few_said c.args.version bytes c.in-Ok.entries.items told.0)

pub bytes_of-whole-requires-clause-script : goal.bytes_of-whole-requires-clause-script
bytes_of-whole-requires-clause-script g c =
    let s = g.R.Replica.seen c.args.replica in
    let after = g.R.Replica.seen c.take.new.self in
    subst (λ (l : List ℕ). length l ≤ 65536) (sym (c.script.ensures ∙ taken_script s after _ _ c.in-Ok-take.ensures.takes)) c.requires.short

pub returns-clause-told : goal.returns-clause-told
returns-clause-told g c =
    let (bytes, taken, told) = c.in-Ok.ensures.told in
    let es = c.in-Ok.entries.items in
    let s = g.R.Replica.seen c.args.replica in
    let after = g.R.Replica.seen c.take.new.self in (
      record {
        bytes = bytes;
        reads = (taken, told.2);
        all = told.1;
        entries = es;
        says = told.0;
        whole_is = c.bytes_of-whole.ensures s.site ∙ ap (λ (l : List Entry). length (journal c.args.version s.site c.script.result.now l)) c.as_slice-2.ensures.value
            ∙ ap (λ (l : List ℕ). length (journal c.args.version s.site l es)) (c.script.ensures ∙ taken_script s after _ _ c.in-Ok-take.ensures.takes);
        taken = c.in-Ok-take.field-0;
        takes = subst (λ (l : List Entry). TakesBatch s l c.in-Ok-take.field-0 after) c.as_slice.ensures.value c.in-Ok-take.ensures.takes;
      },
      refl,
    )
