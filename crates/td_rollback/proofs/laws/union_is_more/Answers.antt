use Rattle.td_rollback.proofs.More as more
use Rattle.td_rollback.proofs.laws.union_is_more.Goals as goal

pub returns : goal.returns
returns c = more.union_is_more
