use Rattle.td_relations.proofs.Predicates.{of_union}
use Rattle.td_algebra.proofs.sets.union.Goals as goal

pub returns : goal.returns
returns c = of_union c.args.a.now.heading c.args.a.now c.args.b.now c.in_ok-either.either c.in_ok-either.ensures
