use Rattle.std.proofs.Common.{List, ◌++◌}
use Rattle.json.specs.Value.{value_view}
use Rattle.td_http_api.specs.declared.calls.OrderBy.{OrderBy}
use Rattle.td_http_api.specs.Orders.{ListsOrders}
use Rattle.td_http_api.proofs.orders.read_orders.Given as goal

-- the pairs so far are those of the orders, before those that are left
abbrev pub invariant-loop-index : goal.invariant-loop-index
invariant-loop-index l =
    (left : List OrderBy) → ListsOrders l.index (value_view l.list) left → ListsOrders 0 (value_view l.list) (l.orders.items ++ left)
