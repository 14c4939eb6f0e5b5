use Rattle.std.proofs.lemmas.Result.{err_from_is_err_and}
use Rattle.td_frames.proofs.Writing.{front_longer, writes_then}
use Rattle.td_meeting.specs.Writing.{sends}
use Rattle.td_meeting.proofs.sending.send_reply.Goals as goal

pub returns-in_err-put_own-clause-bytes : goal.returns-in_err-put_own-clause-bytes
returns-in_err-put_own-clause-bytes g c =
    let p = err_from_is_err_and c.from_residual.result c.from_residual.ensures.1 in
    let (own, greets, front) = c.in_err-put_own.ensures.bytes in
    (own, greets, rw p.1 (front_longer _ _ own (sends (g.R.Replica.seen c.args.site.now) c.args.vector.now) front))

pub returns-clause-bytes : goal.returns-clause-bytes
returns-clause-bytes g c =
    let (own, greets, written) = c.in_ok-put_own.ensures.bytes in
    (own, greets, writes_then _ _ _ c.send.result own (sends (g.R.Replica.seen c.args.site.now) c.args.vector.now) written c.send.ensures.bytes)
