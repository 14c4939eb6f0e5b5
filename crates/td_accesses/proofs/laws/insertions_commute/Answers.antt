use Rattle.td_accesses.proofs.Beside.{insertions_commute}
use Rattle.td_accesses.proofs.laws.insertions_commute.Goals as goal

pub returns : goal.returns
returns c = insertions_commute
