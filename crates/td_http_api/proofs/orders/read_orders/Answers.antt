use Rattle.std.proofs.Common.{rules, ◌≡◌, [], None, sym, ap, ◌∙◌, subst}
use Rattle.std.proofs.lemmas.List.{append-nil}
use Rattle.std.specs.Option.{option_map}
use Rattle.json.specs.Find.{at}
use Rattle.json.specs.Value.{value_view}
use Rattle.td_http_api.specs.Orders.{ListsOrders}
use Rattle.td_http_api.proofs.orders.read_orders.Goals as goal

pub returns-in_default-at : goal.returns-in_default-at
returns-in_default-at c =
    let list = value_view c.args.list.now in
    let none : at c.loop-index.index list ≡ None = search rules in
    subst (ListsOrders 0 list) (append-nil c.loop-index.orders.items) (c.loop-index.invariant [] none)
