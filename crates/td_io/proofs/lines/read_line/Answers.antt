use Rattle.std.proofs.Common.{arith, ◌++◌, take, drop, length-take-le, sym, ◌∙◌}
use Rattle.std.proofs.KnownBytes.{Consumes-trans, Keeps-trans}
use Rattle.td_io.proofs.LineEnds.{begun_part, kept_at_end, last_of, part_read, read_of_one, read_on, read_whole, reads_more}
use Rattle.td_io.proofs.lines.read_line.Goals as goal

pub returns-in-Err-extend_line-clause-line : goal.returns-in-Err-extend_line-clause-line
returns-in-Err-extend_line-clause-line g c =
    let (raw, read, one, line, count, beside, failures) = c.loop-reads.invariant in
    let n = c.in-Ok.length in
    let new = c.read_of_line.new.buf in
    let p = take n new in
    let within = c.in-Ok.ensures.bound.0 in
    let made = reads_more c.args.reads.now c.loop-reads.reads c.min-room.result n raw c.loop-reads.part new count (omega arith) c.read_of_line.auto.buf within in
    let part = part_read raw p (omega (arith, length-take-le n new within, c.in-Ok.length-test)) c.in-Ok.ensures.line one in
    (raw ++ p, Consumes-trans _ _ _ _ _ read c.in-Ok.ensures.bytes.0, read_of_one raw p part, made.0)

pub returns-then-part-length-eq10-clause-line : goal.returns-then-part-length-eq10-clause-line
returns-then-part-length-eq10-clause-line g c =
    let (raw, read, one, line, count, beside, failures) = c.loop-reads.invariant in
    let n = c.in-Ok.length in
    let new = c.read_of_line.new.buf in
    let p = take n new in
    let within = c.in-Ok.ensures.bound.0 in
    let most = c.args.most in
    let made = reads_more c.args.reads.now c.loop-reads.reads c.min-room.result n raw c.loop-reads.part new count (omega arith) c.read_of_line.auto.buf within in
    let part = part_read raw p (omega (arith, length-take-le n new within, c.in-Ok.length-test)) c.in-Ok.ensures.line one in
    let begun = begun_part most n new (drop c.min-room.result c.loop-reads.part) raw _ _ within line c.in-Ok-extend_line.ensures in
    let end = last_of n new (drop c.min-room.result c.loop-reads.part) (omega (arith, c.in-Ok.length-test)) within ∙ c.if-part-length-eq10.true in (
      raw ++ p,
      Consumes-trans _ _ _ _ _ read c.in-Ok.ensures.bytes.0,
      (kept_at_end most (raw ++ p) _ _ begun c.unless_too_long-then-part-length-eq10.ensures, read_whole raw p part end),
      made.0,
    )

pub loop-reads-preserved : goal.loop-reads-preserved
loop-reads-preserved g c =
    let (raw, read, one, line, count, beside, failures) = c.loop-reads.invariant in
    let n = c.in-Ok.length in
    let new = c.read_of_line.new.buf in
    let p = take n new in
    let within = c.in-Ok.ensures.bound.0 in
    let most = c.args.most in
    let made = reads_more c.args.reads.now c.loop-reads.reads c.min-room.result n raw c.loop-reads.part new count (omega arith) c.read_of_line.auto.buf within in
    let part = part_read raw p (omega (arith, length-take-le n new within, c.in-Ok.length-test)) c.in-Ok.ensures.line one in
    let end = last_of n new (drop c.min-room.result c.loop-reads.part) (omega (arith, c.in-Ok.length-test)) within in (
      raw ++ p,
      Consumes-trans _ _ _ _ _ read c.in-Ok.ensures.bytes.0,
      read_on raw p part (λ e. c.if-part-length-eq10.false (sym end ∙ e)),
      begun_part most n new (drop c.min-room.result c.loop-reads.part) raw _ _ within line c.in-Ok-extend_line.ensures,
      made.1,
      Keeps-trans _ _ _ beside c.in-Ok.ensures.beside,
      c.in-Ok.ensures.count ∙ failures,
    )
