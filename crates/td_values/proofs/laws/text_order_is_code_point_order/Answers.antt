use Rattle.td_values.proofs.Utf8Order.{chars_decide}
use Rattle.td_values.proofs.laws.text_order_is_code_point_order.Goals as goal

pub returns : goal.returns
returns c = chars_decide
