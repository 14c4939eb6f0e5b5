use Rattle.td_assign.proofs.Leading.{only_listed_change}
use Rattle.td_assign.proofs.laws.only_listed_change.Goals as goal

pub returns : goal.returns
returns c = only_listed_change
