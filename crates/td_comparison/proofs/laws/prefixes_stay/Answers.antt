use Rattle.td_comparison.proofs.Stays.{prefixes_stay}
use Rattle.td_comparison.proofs.laws.prefixes_stay.Goals as goal

pub returns : goal.returns
returns c = prefixes_stay
