use Rattle.td_integrity.proofs.Legal.{legal}
use Rattle.td_integrity.proofs.laws.none_fails_of_legal.Goals as goal

pub returns : goal.returns
returns c = legal
