use Rattle.td_meeting.proofs.Stepping.{leave_exchange}
use Rattle.td_meeting.proofs.laws.steps_leave_exchange.Goals as goal

pub returns : goal.returns
returns c = leave_exchange
