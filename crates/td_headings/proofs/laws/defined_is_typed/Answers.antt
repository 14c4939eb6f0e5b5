use Rattle.td_headings.proofs.WellTyped.{all_typed}
use Rattle.td_headings.proofs.laws.defined_is_typed.Goals as goal

pub returns : goal.returns
returns c = all_typed
