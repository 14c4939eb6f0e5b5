use Rattle.td_operators.proofs.Decided.{heading_tested}
use Rattle.td_operators.proofs.pairs.have_one_heading.Goals as goal

pub returns-clause-test : goal.returns-clause-test
returns-clause-test c = heading_tested c.args.r.now.heading c.args.s.now.heading c.same_heading.result c.same_heading.ensures
