use Rattle.td_relations.proofs.Predicates.{of_intersection}
use Rattle.td_algebra.proofs.sets.intersect.Goals as goal

pub returns : goal.returns
returns c = of_intersection c.args.a.now.heading c.args.a.now c.args.b.now c.in_ok-common.common c.in_ok-common.ensures
