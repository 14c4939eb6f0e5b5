use Rattle.std.proofs.Common.{refl}
use Rattle.td_workbench.specs.Programs.{AreAllOpen, AsOpened}
use Rattle.td_workbench.specs.Runs.{over}
use Rattle.td_workbench.proofs.Starting.{all_open, ready_ends, refused_told}
use Rattle.td_workbench.proofs.programs.start.Goals as goal

pub returns-in-Err : goal.returns-in-Err
returns-in-Err g c = λ from has.
    let b = over g.R.Replica.seen g.R.Replica.failed g.R.Replica.journaled g.L.Links.serves g.L.Links.calls in
    refused_told c.args.reads.now from _ _ _ has b (AsOpened b) (AreAllOpen b) c.args.options.now c.args.links.now c.in-Err.e c.refuse.result _ _ (c.in-Err.ensures.judged has.text has.is_kept) c.refuse.ensures

pub returns-in-Ok : goal.returns-in-Ok
returns-in-Ok g c = λ from has.
    let b = over g.R.Replica.seen g.R.Replica.failed g.R.Replica.journaled g.L.Links.serves g.L.Links.calls in
    let (accepted, of, told) = c.in-Ok.ensures.judged has.text has.is_kept in
    ready_ends b (AsOpened b) (AreAllOpen b) (all_open g.R.Replica.seen g.met.R.Opens.stays_open) c.args.options.now c.args.links.now c.tell_and_answer.new.links c.args.reads.now from _ _ _ c.args.script.now.is_last _ _ _ _ _
    c.in-Ok.opened.sites.items c.tell_and_answer.result has accepted refl of told c.tell_and_answer.ensures
