use Rattle.td_operators.proofs.Decided.{same_tested}
use Rattle.td_operators.proofs.comparisons.same.Goals as goal

pub returns : goal.returns
returns c = same_tested c.args.u.now c.args.v.now c.equal.result c.equal.ensures
