use Rattle.std.proofs.Common.{ℕ, Vec, Global}
use Rattle.td_graph.proofs.Walks.{one_link}
use Rattle.td_graph.proofs.Graph.add.Goals as goal

pub returns : goal.returns
returns c = one_link (λ (v : Vec ℕ Global). v.items) c.self.inside.next.items c.args.self.now c.args.from c.args.to c.index_mut.result.now c.push.new.self c.self.view_is c.requires c.index_mut.ensures.value c.in_ok-push.ensures.items
