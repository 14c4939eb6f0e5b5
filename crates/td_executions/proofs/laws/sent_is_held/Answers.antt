use Rattle.td_executions.proofs.Sound.{reached_is_sound}
use Rattle.td_executions.proofs.laws.sent_is_held.Goals as goal

pub returns : goal.returns
returns c = λ evs w reached. (reached_is_sound c.next_comes_last.ensures evs w reached).own
