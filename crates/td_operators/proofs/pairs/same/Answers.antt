use Rattle.td_operators.specs.ForProofs.Lent.{operand_value}
use Rattle.td_operators.proofs.Decided.{same_tested}
use Rattle.td_operators.proofs.pairs.same.Goals as goal

pub returns : goal.returns
returns c = same_tested (operand_value c.args.u.now) (operand_value c.args.v.now) c.are_same.result c.are_same.ensures
