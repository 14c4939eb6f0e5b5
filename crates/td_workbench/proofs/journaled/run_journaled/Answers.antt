use Rattle.std.proofs.Common.{inl, inr}
use Rattle.td_workbench.specs.Journals.{AnyWay, ComeBack, keepers, with_links}
use Rattle.td_workbench.proofs.Journaling.{as_run}
use Rattle.td_workbench.proofs.Starting.{fault_told}
use Rattle.td_workbench.proofs.journaled.run_journaled.Goals as goal

pub returns-in-Err-End : goal.returns-in-Err-End
returns-in-Err-End g c =
    let own = keepers g.R.Replica g.J.Writer.Sink in
    let journals = g.J.Journals.kept c.args.journals.now in
    let prefix = c.args.prefix.now in
    let links = c.args.links.now in
    let (bytes, read, none, end) = rw c.in-Err-End.field-0-is at c.in-Err-End.ensures in
    as_run own g.L.Links.serves g.L.Links.calls journals (g.J.Journals.fails c.args.journals.now) prefix c.args.options.now links links _ _ _ _ c.put_fault.result c.as_run.result c.as_run.ensures
    (fault_told (with_links own g.L.Links.serves g.L.Links.calls) (ComeBack own journals prefix) AnyWay c.args.options.now links bytes c.as_slice.result.now _ _ _ _ c.put_fault.result read (inl (none, end, c.as_slice.ensures)) c.put_fault.ensures)

pub returns-in-Err-OutOfMemory : goal.returns-in-Err-OutOfMemory
returns-in-Err-OutOfMemory g c =
    let own = keepers g.R.Replica g.J.Writer.Sink in
    let journals = g.J.Journals.kept c.args.journals.now in
    let prefix = c.args.prefix.now in
    let links = c.args.links.now in
    let (bytes, read, unfinished) = rw c.in-Err-OutOfMemory.field-0-is at c.in-Err-OutOfMemory.ensures in
    as_run own g.L.Links.serves g.L.Links.calls journals (g.J.Journals.fails c.args.journals.now) prefix c.args.options.now links links _ _ _ _ c.put_fault-in-Err-OutOfMemory.result c.as_run-in-Err-OutOfMemory.result c.as_run-in-Err-OutOfMemory.ensures
    (fault_told (with_links own g.L.Links.serves g.L.Links.calls) (ComeBack own journals prefix) AnyWay c.args.options.now links bytes c.as_slice-in-Err-OutOfMemory.result.now _ _ _ _ c.put_fault-in-Err-OutOfMemory.result read
    (inr (inr (unfinished, c.as_slice-in-Err-OutOfMemory.ensures))) c.put_fault-in-Err-OutOfMemory.ensures)
