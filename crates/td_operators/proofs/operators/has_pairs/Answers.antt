use Rattle.td_operators.proofs.Decided.{pair_tested}
use Rattle.td_operators.proofs.operators.has_pairs.Goals as goal

pub returns-clause-test : goal.returns-clause-test
returns-clause-test c = pair_tested c.args.heading.now c.is_binary.result c.is_binary.ensures
