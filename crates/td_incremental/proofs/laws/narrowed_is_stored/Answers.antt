use Rattle.td_incremental.proofs.Narrowing.{narrowed_is_stored}
use Rattle.td_incremental.proofs.laws.narrowed_is_stored.Goals as goal

pub returns : goal.returns
returns c = narrowed_is_stored
