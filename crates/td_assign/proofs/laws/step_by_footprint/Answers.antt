use Rattle.td_assign.proofs.Footprint.{step_by_footprint}
use Rattle.td_assign.proofs.laws.step_by_footprint.Goals as goal

pub returns : goal.returns
returns c = step_by_footprint
