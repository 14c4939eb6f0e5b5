use Rattle.td_eval.proofs.Virtuals.{stored_stay}
use Rattle.td_eval.proofs.laws.bases_stay.Goals as goal

pub returns : goal.returns
returns c = stored_stay
