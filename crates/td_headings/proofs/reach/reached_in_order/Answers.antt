use Rattle.td_graph.specs.Links.{ReachedFrom}
use Rattle.td_headings.proofs.Ascending.{those_with}
use Rattle.td_headings.proofs.reach.reached_in_order.Goals as goal

pub returns : goal.returns
returns g c = those_with (ReachedFrom (g.L.Leads.links c.args.links.now) c.args.starts.now) c.in_ok-places.places.items c.in_order.result.items c.in_ok-places.ensures c.in_order.ensures
