use Rattle.std.proofs.Common.{IfSome, subst}
use Rattle.td_insertions.specs.ForProofs.Written.{IsWritten}
use Rattle.td_insertions.proofs.Putting.{puts_all}
use Rattle.td_insertions.proofs.tuples.puts_in_all.Goals as goal

pub returns : goal.returns
returns c d e k a is read steps differ puts =
    let x = c.args.statement.now in
    let w = c.in-Some-2.written in
    let written = subst (λ o. IfSome o (λ v. IsWritten x v.target v.many)) c.in-Some-2.is c.in_ok-written.ensures in
    puts_all d e k a x is read steps c.args.changes.now differ c.in-Some.change.now c.in-Some.ensures w.target w.many written
    (c.puts_as_many.ensures.target puts) (c.puts_as_many.ensures.many puts) c.puts_as_many.ensures.rows
