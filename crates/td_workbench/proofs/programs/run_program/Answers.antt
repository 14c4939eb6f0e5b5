use Rattle.std.proofs.Common.{inl, inr}
use Rattle.td_workbench.specs.Programs.{AreAllOpen, AsOpened}
use Rattle.td_workbench.specs.Runs.{over}
use Rattle.td_workbench.proofs.Starting.{fault_told}
use Rattle.td_workbench.proofs.programs.run_program.Goals as goal

pub returns-in-Err-End : goal.returns-in-Err-End
returns-in-Err-End g c =
    let b = over g.R.Replica.seen g.R.Replica.failed g.R.Replica.journaled g.L.Links.serves g.L.Links.calls in
    let (bytes, read, none, end) = rw c.in-Err-End.field-0-is at c.in-Err-End.ensures in
    fault_told b (AsOpened b) (AreAllOpen b) c.args.options.now c.args.links.now bytes c.as_slice.result.now _ _ _ _ c.put_fault.result read (inl (none, end, c.as_slice.ensures)) c.put_fault.ensures

pub returns-in-Err-OutOfMemory : goal.returns-in-Err-OutOfMemory
returns-in-Err-OutOfMemory g c =
    let b = over g.R.Replica.seen g.R.Replica.failed g.R.Replica.journaled g.L.Links.serves g.L.Links.calls in
    let (bytes, read, unfinished) = rw c.in-Err-OutOfMemory.field-0-is at c.in-Err-OutOfMemory.ensures in
    fault_told b (AsOpened b) (AreAllOpen b) c.args.options.now c.args.links.now bytes c.as_slice-in-Err-OutOfMemory.result.now _ _ _ _ c.put_fault-in-Err-OutOfMemory.result read
    (inr (inr (unfinished, c.as_slice-in-Err-OutOfMemory.ensures))) c.put_fault-in-Err-OutOfMemory.ensures
