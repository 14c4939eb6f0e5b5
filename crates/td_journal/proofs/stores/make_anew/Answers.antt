use Rattle.std.proofs.Common.{ap, ◌∙◌}
use Rattle.td_io.specs.Views.{output_of}
use Rattle.td_journal.specs.Views.{KeeperData}
use Rattle.td_journal.proofs.Stored.{anew, not_written}
use Rattle.td_journal.proofs.stores.make_anew.Goals as goal

pub returns-in-Err-put_journal : goal.returns-in-Err-put_journal
returns-in-Err-put_journal g c =
    let old = output_of g.J.Renewal.Sink c.in-Ok.renewal in
    let new = output_of g.J.Renewal.Sink c.put_journal.new.writer in
    let fails = not_written (g.R.Replica.seen c.args.replica) c.in-Err-put_journal.field-0 old new (g.met.R.Opens.stays_open c.args.replica) c.in-Err-put_journal.ensures in
    c.in-Ok.ensures.writes c.put_journal.new.writer fails.1.1

pub returns-in-Ok-replace : goal.returns-in-Ok-replace
returns-in-Ok-replace g c =
    let is = c.over.ensures in
    let k = c.over.result in
    let empty = output_of g.J.Renewal.Sink c.in-Ok.renewal in
    let begun = output_of g.J.Renewal.Sink c.put_journal.new.writer in
    let held = ap (λ (x : KeeperData _ _). g.J.Writer.Sink.held x.writer) is ∙ c.in-Ok-replace.ensures in (
      anew (g.J.Journals.kept c.args.journals.now c.args.name.now) (g.R.Replica.seen c.args.replica) (g.R.Replica.seen k.replica) empty begun (output_of g.J.Writer.Sink k.writer)
          (ap (λ (x : KeeperData _ _). g.R.Replica.seen x.replica) is) c.in-Ok.ensures.held c.in-Ok-put_journal.ensures held,
      (ap (λ (x : KeeperData _ _). x.replica) is, ap (λ (x : KeeperData _ _). x.is_open) is),
    )
