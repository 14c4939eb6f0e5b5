use Rattle.td_incremental.proofs.Narrowing.{differences_are_gains}
use Rattle.td_incremental.proofs.laws.differences_are_gains.Goals as goal

pub returns : goal.returns
returns c = differences_are_gains
