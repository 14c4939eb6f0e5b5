use Rattle.td_assign.proofs.Stepping.{step_keeps_database}
use Rattle.td_assign.proofs.laws.step_keeps_database.Goals as goal

pub returns : goal.returns
returns c = step_keeps_database
