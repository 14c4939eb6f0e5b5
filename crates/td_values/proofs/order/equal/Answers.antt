use Rattle.td_values.proofs.Walks.{equal_ties}
use Rattle.td_values.proofs.order.equal.Goals as goal

pub returns : goal.returns
returns c = equal_ties _ _ c.compare.result c.is_eq.result c.compare.ensures c.is_eq.ensures
