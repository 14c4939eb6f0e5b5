use Rattle.td_operators.proofs.Decided.{heading_tested}
use Rattle.td_operators.proofs.inclusions.are_one.Goals as goal

pub returns-clause-test : goal.returns-clause-test
returns-clause-test c = heading_tested c.args.g.now c.args.h.now c.equal_headings.result c.equal_headings.ensures
