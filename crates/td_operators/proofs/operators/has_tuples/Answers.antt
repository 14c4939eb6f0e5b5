use Rattle.td_operators.proofs.KindLemmas.{tuple_tested}
use Rattle.td_operators.proofs.operators.has_tuples.Goals as goal

pub returns-clause-test : goal.returns-clause-test
returns-clause-test c = tuple_tested c.args.name.now c.args.heading.now c.is_tuple_valued.result c.is_tuple_valued.ensures
