use Rattle.td_values.specs.Proving.Total.{ty_order_total}
use Rattle.td_values.proofs.laws.type_order_is_total.Goals as goal

pub returns : goal.returns
returns c = ty_order_total
