use Rattle.td_executions.proofs.Sound.{none_clash, reached_is_sound}
use Rattle.td_executions.proofs.laws.world_has_no_clash.Goals as goal

pub returns : goal.returns
returns c = λ evs w reached. none_clash w (reached_is_sound c.next_comes_last.ensures evs w reached)
