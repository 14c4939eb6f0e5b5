use Rattle.td_integrity.proofs.Apart.{keys_apart}
use Rattle.td_integrity.proofs.laws.keys_tell_tuples_apart.Goals as goal

pub returns : goal.returns
returns c = keys_apart
