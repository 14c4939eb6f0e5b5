use Rattle.td_semantics.proofs.Legal.{step_is_legal}
use Rattle.td_semantics.proofs.laws.step_is_legal.Goals as goal

pub returns : goal.returns
returns c = step_is_legal
