use Rattle.td_relations.proofs.Predicates.{of_difference}
use Rattle.td_algebra.proofs.sets.minus.Goals as goal

pub returns : goal.returns
returns c = of_difference c.args.a.now.heading c.args.a.now c.args.b.now c.in_ok-remaining.remaining c.in_ok-remaining.ensures
