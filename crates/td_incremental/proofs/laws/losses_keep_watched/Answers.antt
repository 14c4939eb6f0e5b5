use Rattle.td_incremental.proofs.Narrowing.{losses_keep_watched}
use Rattle.td_incremental.proofs.laws.losses_keep_watched.Goals as goal

pub returns : goal.returns
returns c = losses_keep_watched
