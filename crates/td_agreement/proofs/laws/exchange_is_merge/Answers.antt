use Rattle.td_agreement.proofs.Agreeing.{exchange_is_merge}
use Rattle.td_agreement.proofs.laws.exchange_is_merge.Goals as goal

pub returns : goal.returns
returns c = exchange_is_merge
