use Rattle.std.proofs.Common.{ap}
use Rattle.td_operators.specs.ForProofs.Lent.{operand_value}
use Rattle.td_operators.proofs.KindLemmas.{rows_back}
use Rattle.td_operators.proofs.operand.rows_of.Goals as goal

pub returns-in-Lent : goal.returns-in-Lent
returns-in-Lent g c = rows_back (operand_value c.args.operand) c.in-Lent.lease (ap operand_value c.in-Lent.is)
