use Rattle.td_assign.proofs.Leading.{go_alike}
use Rattle.td_assign.proofs.laws.go_alike.Goals as goal

pub returns : goal.returns
returns c = go_alike
