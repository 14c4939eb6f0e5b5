use Rattle.td_algebra.proofs.Extremes.{max_is_greatest}
use Rattle.td_algebra.proofs.laws.max_is_greatest.Goals as goal

pub returns : goal.returns
returns c = max_is_greatest
