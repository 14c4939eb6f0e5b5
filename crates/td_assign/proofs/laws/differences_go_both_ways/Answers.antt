use Rattle.td_assign.proofs.Leading.{differences_go_both_ways}
use Rattle.td_assign.proofs.laws.differences_go_both_ways.Goals as goal

pub returns : goal.returns
returns c = differences_go_both_ways
