use Rattle.td_algebra.proofs.Told.{key_after}
use Rattle.td_algebra.proofs.laws.key_after.Goals as goal

pub returns : goal.returns
returns c = key_after
