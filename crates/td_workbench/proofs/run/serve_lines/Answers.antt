use Rattle.std.proofs.Common.{subst, ◌≡◌, ◌+◌, ◌-◌, Bool, length, cond, arith}
use Rattle.td_io.specs.Views.{output_of}
use Rattle.td_workbench.proofs.Answering.{unread_serves, unbegun_serves, over_serves, failed_serves}
use Rattle.td_workbench.proofs.Serving.{done_handed, done_none, done_more, serves_behind, served_one, unhanded_serves}
use Rattle.td_workbench.proofs.run.serve_lines.Goals as goal

pub loop-reads-init : goal.loop-reads-init
loop-reads-init g c = (done_none _ _ c.args.reads.now _ _, c.requires)

pub returns-in-Err : goal.returns-in-Err
returns-in-Err g c =
    let done = done_handed _ _ _ _ _ _ _ _ (output_of g.K.Sink c.flush_due.new.sink) _ c.in-Ok.ensures.held c.in-Ok.ensures.count c.loop-reads.invariant.0 in
    let (raw, took, tells, count) = c.in-Err.ensures.line in
    rw c.not_read.ensures (serves_behind _ _ _ _ _ _ _ _ _ _ _ _ _ done
    (unread_serves _ _ 16384 c.loop-reads.reads c.next_line.new.reads _ _ _ raw c.in-Err.e took tells count c.in-Err.ensures.no_more c.in-Err.ensures.cause))

pub returns-in-Err-answer_read : goal.returns-in-Err-answer_read
returns-in-Err-answer_read g c =
    let done = done_handed _ _ _ _ _ _ _ _ (output_of g.K.Sink c.flush_due.new.sink) _ c.in-Ok.ensures.held c.in-Ok.ensures.count c.loop-reads.invariant.0 in
    let (raw, took, tells, count) = c.in-Ok-next_line.ensures.line in
    serves_behind _ _ _ _ _ _ _ _ _ _ _ _ _ done
    (failed_serves _ _ c.loop-reads.reads c.in-Ok-next_line.line.is_last _ _ _ _ raw _ c.in-Err-answer_read.field-0 (took, c.in-Ok-next_line.ensures.cause) (c.in-Err-answer_read.ensures.ends raw _ tells))

pub returns : goal.returns
returns g c =
    serves_behind _ _ _ _ _ _ _ _ _ _ _ _ _ c.loop-reads.invariant.0 (unbegun_serves _ _ c.loop-reads.reads _ _ (omega (arith, c.loop-reads-test.false)))

pub returns-in-Ok-true : goal.returns-in-Ok-true
returns-in-Ok-true g c =
    let done = done_handed _ _ _ _ _ _ _ _ (output_of g.K.Sink c.flush_due.new.sink) _ c.in-Ok.ensures.held c.in-Ok.ensures.count c.loop-reads.invariant.0 in
    let (raw, took, tells, count) = c.in-Ok-next_line.ensures.line in
    serves_behind _ _ _ _ _ _ _ _ _ _ _ _ _ done
    (over_serves _ _ c.loop-reads.reads c.in-Ok-next_line.line.is_last _ _ _ _ raw _ (took, c.in-Ok-next_line.ensures.cause) (rw c.in-Ok-true.field-0-test at c.in-Ok-true.ensures.ends raw _ tells))

pub loop-reads-preserved : goal.loop-reads-preserved
loop-reads-preserved g c =
    let done = done_handed _ _ _ _ _ _ _ _ (output_of g.K.Sink c.flush_due.new.sink) _ c.in-Ok.ensures.held c.in-Ok.ensures.count c.loop-reads.invariant.0 in
    let (raw, took, tells, count) = c.in-Ok-next_line.ensures.line in
    let ends = rw c.in-Ok-false.field-0-test at c.in-Ok-false.ensures.ends raw _ tells in (
      done_more _ _ _ c.loop-reads.reads c.next_line.new.reads _ _ _ _ _ _ _ _ raw ends.0 done (took, c.in-Ok-next_line.ensures.cause)
          (subst (λ (b : Bool). c.loop-reads.reads - c.next_line.new.reads ≡ length raw + cond b 1 0) ends.1 count) c.in-Ok-next_line.ensures.no_more
          (served_one _ _ raw ends.0 _ ends.2 ends.3 ends.4) ends.5,
      c.in-Ok-false.ensures.kept,
    )

pub loop-reads-preserved-in-Ok-false : goal.loop-reads-preserved-in-Ok-false
loop-reads-preserved-in-Ok-false g c =
    let done = done_handed _ _ _ _ _ _ _ _ (output_of g.K.Sink c.flush_due.new.sink) _ c.in-Ok.ensures.held c.in-Ok.ensures.count c.loop-reads.invariant.0 in
    let (raw, took, tells, count) = c.in-Ok-next_line.ensures.line in
    let ends = rw c.in-Ok-false.field-0-test at c.in-Ok-false.ensures.ends raw _ tells in (
      done_more _ _ _ c.loop-reads.reads c.next_line.new.reads _ _ _ _ _ _ _ _ raw ends.0 done (took, c.in-Ok-next_line.ensures.cause)
          (subst (λ (b : Bool). c.loop-reads.reads - c.next_line.new.reads ≡ length raw + cond b 1 0) ends.1 count) c.in-Ok-next_line.ensures.no_more
          (served_one _ _ raw ends.0 _ ends.2 ends.3 ends.4) ends.5,
      c.in-Ok-false.ensures.kept,
    )

pub returns-in_default : goal.returns-in_default
returns-in_default g c =
    serves_behind _ _ _ _ _ _ _ _ _ _ _ _ _ c.loop-reads.invariant.0
    (unhanded_serves _ _ c.loop-reads.reads _ (output_of g.K.Sink c.loop-reads.sink) (output_of g.K.Sink c.flush_due.new.sink) c.in_default.ensures.held c.in_default.ensures.count)
