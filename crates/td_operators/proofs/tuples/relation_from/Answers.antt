use Rattle.td_relations.specs.Sets.{tuple_set}
use Rattle.td_relations.proofs.Members.{relation_is}
use Rattle.td_operators.proofs.tuples.relation_from.Goals as goal

pub returns : goal.returns
returns c = relation_is c.args.heading (tuple_set c.args.tuples.items) c.from_tuples-made.result c.from_tuples-made.ensures
