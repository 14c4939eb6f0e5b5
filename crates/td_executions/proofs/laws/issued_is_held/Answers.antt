use Rattle.td_executions.proofs.Sound.{issued_held}
use Rattle.td_executions.proofs.laws.issued_is_held.Goals as goal

pub returns : goal.returns
returns c = issued_held
