use Rattle.td_values.proofs.Walks.{equal_types_tie}
use Rattle.td_values.proofs.order.equal_types.Goals as goal

pub returns : goal.returns
returns c = equal_types_tie _ _ c.compare_types.result c.is_eq.result c.compare_types.ensures c.is_eq.ensures
