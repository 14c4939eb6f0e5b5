use Rattle.std.proofs.Common.{◌≤◌, ℕ, List, length, sym, ap, subst, ◌∙◌}
use Rattle.td_io.specs.Views.{output_of}
use Rattle.td_stamps.specs.Sets.{Holding}
use Rattle.td_journal.proofs.Kept.{starts}
use Rattle.td_journal.proofs.keeper.put_journal.Goals as goal

pub send_journal-requires-clause-script : goal.send_journal-requires-clause-script
send_journal-requires-clause-script g c =
    subst (λ (l : List ℕ). length l ≤ 65536) (sym c.script.ensures) (c.site.ensures.sound.told.1.opens.script.reads.short)

pub returns-in-Ok-send_journal : goal.returns-in-Ok-send_journal
returns-in-Ok-send_journal g c =
    let s = g.R.Replica.seen c.args.replica.now in
    let wrote = c.in-Ok-send_journal.ensures in
    let entries = c.entries.ensures.entries ∙ ap (λ (h : Holding). h.entries) c.in-Ok.ensures.1 in
    starts s c.site.result c.script.result.now c.entries.result.now (output_of g.W.Sink c.args.writer.now) (output_of g.W.Sink c.send_journal.new.sink) c.site.ensures.number c.script.ensures entries
    c.in-Ok.ensures.0 ((wrote.bytes, wrote.count), wrote.flushed) wrote.has
