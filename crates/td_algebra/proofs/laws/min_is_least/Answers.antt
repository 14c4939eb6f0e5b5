use Rattle.td_algebra.proofs.Extremes.{min_is_least}
use Rattle.td_algebra.proofs.laws.min_is_least.Goals as goal

pub returns : goal.returns
returns c = min_is_least
