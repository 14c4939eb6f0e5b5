use Rattle.td_meeting.proofs.Whole.{written_on}
use Rattle.td_meeting.proofs.sending.send_greeting.Goals as goal

pub returns-clause-bytes : goal.returns-clause-bytes
returns-clause-bytes g c =
    let (bytes, greets, written) = c.in_ok-put_own.ensures.bytes in
    (bytes, greets, written_on _ _ _ c.flush.result bytes written c.flush.ensures.held)
