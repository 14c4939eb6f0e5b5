use Rattle.td_replica.proofs.Agreeing.{history_is_unique}
use Rattle.td_replica.proofs.laws.history_is_unique.Goals as goal

pub returns : goal.returns
returns c = history_is_unique
