use Rattle.std.proofs.Common.{true, sym, ◌∙◌}
use Rattle.td_io.specs.Views.{output_of}
use Rattle.td_workbench.specs.Runs.{AnswersLine, LineStep, State, over}
use Rattle.td_workbench.proofs.Answering.{nothing_read, quit_read, last_read, failed_read}
use Rattle.td_workbench.proofs.run.answer_read.Goals as goal

pub returns-then-is_nothing-clause-ends : goal.returns-then-is_nothing-clause-ends
returns-then-is_nothing-clause-ends g c = λ raw left tells. nothing_read _ _ raw _ left (output_of g.K.Sink c.args.sink.now) tells.1 (sym (c.is_nothing.ensures raw tells.0) ∙ c.if-is_nothing.true)

pub returns-then-quits-clause-ends : goal.returns-then-quits-clause-ends
returns-then-quits-clause-ends g c = λ raw left tells.
    let step : LineStep (State _ _) = AnswersLine (over g.R.Replica.seen g.R.Replica.failed g.R.Replica.journaled g.L.Links.serves g.L.Links.calls) c.args.catalogue.now in
    rw c.if-quits.true (quit_read step (c.args.sites.now, c.args.links.now) raw _ left (c.answer_line.new.sites, c.answer_line.new.links) _ _ _ tells.1 (sym (c.is_nothing.ensures raw tells.0) ∙ c.if-is_nothing.false) (c.bytes_of.ensures raw tells.0)
    (rw c.if-quits.true at c.in-Ok.ensures.ends))

pub returns-else-quits-clause-ends : goal.returns-else-quits-clause-ends
returns-else-quits-clause-ends g c = λ raw left tells.
    let step : LineStep (State _ _) = AnswersLine (over g.R.Replica.seen g.R.Replica.failed g.R.Replica.journaled g.L.Links.serves g.L.Links.calls) c.args.catalogue.now in
    last_read step (c.args.sites.now, c.args.links.now) raw _ left (c.answer_line.new.sites, c.answer_line.new.links) _ _ _ tells.1 (sym (c.is_nothing.ensures raw tells.0) ∙ c.if-is_nothing.false) (c.bytes_of.ensures raw tells.0)
    (rw c.if-quits.false at c.in-Ok.ensures.ends)

pub returns-in-Err-clause-ends : goal.returns-in-Err-clause-ends
returns-in-Err-clause-ends g c = λ raw left tells.
    let step : LineStep (State _ _) = AnswersLine (over g.R.Replica.seen g.R.Replica.failed g.R.Replica.journaled g.L.Links.serves g.L.Links.calls) c.args.catalogue.now in
    -- what a front of an answer says of the writer is the same whether it is flushed
    failed_read step (c.args.sites.now, c.args.links.now) raw _ left (c.answer_line.new.sites, c.answer_line.new.links) (record { held = _; faults = _; is_flushed = true }) (record { held = _; faults = _; is_flushed = true }) _ c.in-Err.e tells.1
    (sym (c.is_nothing.ensures raw tells.0) ∙ c.if-is_nothing.false) (c.bytes_of.ensures raw tells.0) c.in-Err.ensures.ends
