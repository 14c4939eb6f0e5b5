use Rattle.td_operators.proofs.KindLemmas.{relation_tested}
use Rattle.td_operators.proofs.operators.has_relations.Goals as goal

pub returns-clause-test : goal.returns-clause-test
returns-clause-test c = relation_tested c.args.name.now c.args.heading.now c.is_relation_valued.result c.is_relation_valued.ensures
