use Rattle.td_incremental.proofs.Narrowing.{watched_by_inserts}
use Rattle.td_incremental.proofs.laws.watched_by_inserts.Goals as goal

pub returns : goal.returns
returns c = watched_by_inserts
