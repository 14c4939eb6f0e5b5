use Rattle.td_meaning.proofs.Fewer.{steady}
use Rattle.td_meaning.proofs.laws.meaning_by_names.Goals as goal

pub returns : goal.returns
returns c = steady
