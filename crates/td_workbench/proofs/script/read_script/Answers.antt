use Rattle.std.proofs.Common.{◌≡◌, ◌+◌, ◌-◌, Bool, cond, length, sym, ◌∙◌, subst, arith, ap, Some}
use Rattle.td_workbench.proofs.Scripting.{begun_none, begun_more, unread_script, no_reads_script, unended_script, unkept_script, has_script}
use Rattle.td_workbench.proofs.script.read_script.Goals as goal

pub loop-reads-init : goal.loop-reads-init
loop-reads-init g c = begun_none c.args.reads.now _ _ (ap Some c.new.ensures.items)

pub returns-in-Err : goal.returns-in-Err
returns-in-Err g c =
    let (raw, took, tells, count) = c.in-Err.ensures.line in
    rw c.unread.ensures (unread_script 65536 _ c.loop-reads.reads c.read_line.new.reads _ _ (record { left = g.S.Source.left c.read_line.new.source; failures = g.S.Source.failures c.read_line.new.source }) _ raw c.in-Err.e c.loop-reads.invariant took tells count c.in-Err.ensures.no_more c.in-Err.ensures.cause)

pub returns : goal.returns
returns g c = no_reads_script _ c.loop-reads.reads _ _ _ c.loop-reads.invariant (omega (arith, c.loop-reads-test.false))

pub returns-then-is_begin : goal.returns-then-is_begin
returns-then-is_begin g c =
    let (raw, took, tells, count) = c.in-Ok.ensures.line in
    has_script _ c.loop-reads.reads c.read_line.new.reads _ _ (record { left = g.S.Source.left c.read_line.new.source; failures = g.S.Source.failures c.read_line.new.source }) _ c.in-Ok.line.is_last raw c.loop-reads.invariant (took, c.in-Ok.ensures.cause)
    (sym (c.is_begin.ensures raw tells.0) ∙ c.if-is_begin.true) tells.1 count c.in-Ok.ensures.no_more

pub returns-then-line : goal.returns-then-line
returns-then-line g c =
    let (raw, took, tells, count) = c.in-Ok.ensures.line in
    let read = rw c.if-line.true at tells.1 in
    unended_script _ c.loop-reads.reads c.read_line.new.reads _ _ (record { left = g.S.Source.left c.read_line.new.source; failures = g.S.Source.failures c.read_line.new.source }) _ raw c.loop-reads.invariant (took, c.in-Ok.ensures.cause) read.0 read.1 (sym (c.is_begin.ensures raw tells.0) ∙ c.if-is_begin.false)

pub returns-in-Err-longer : goal.returns-in-Err-longer
returns-in-Err-longer g c =
    let (raw, took, tells, count) = c.in-Ok.ensures.line in
    unkept_script _ c.loop-reads.reads c.read_line.new.reads _ _ (record { left = g.S.Source.left c.read_line.new.source; failures = g.S.Source.failures c.read_line.new.source }) _ raw c.loop-reads.invariant (took, c.in-Ok.ensures.cause) (rw c.if-line.false at tells.1)

pub loop-reads-preserved : goal.loop-reads-preserved
loop-reads-preserved g c =
    let (raw, took, tells, count) = c.in-Ok.ensures.line in
    begun_more _ c.loop-reads.reads c.read_line.new.reads _ _ _ _ _ raw c.loop-reads.invariant (took, c.in-Ok.ensures.cause) (rw c.if-line.false at tells.1) (sym (c.is_begin.ensures raw tells.0) ∙ c.if-is_begin.false)
    (subst (λ (b : Bool). c.loop-reads.reads - c.read_line.new.reads ≡ length raw + cond b 1 0) c.if-line.false count) c.in-Ok.ensures.no_more (c.in-Ok-longer.ensures _ raw c.loop-reads.invariant.is_kept tells.0)
