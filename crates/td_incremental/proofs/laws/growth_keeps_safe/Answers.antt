use Rattle.td_incremental.proofs.Narrowing.{growth_keeps_safe}
use Rattle.td_incremental.proofs.laws.growth_keeps_safe.Goals as goal

pub returns : goal.returns
returns c = growth_keeps_safe
