use Rattle.td_assign.proofs.Stepping.{changes_targets}
use Rattle.td_assign.proofs.laws.changes_targets.Goals as goal

pub returns : goal.returns
returns c = changes_targets
