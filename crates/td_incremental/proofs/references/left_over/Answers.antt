use Rattle.td_incremental.proofs.Naming.{says_matched, says_without}
use Rattle.td_incremental.proofs.references.left_over.Goals as goal

pub returns-in-Some : goal.returns-in-Some
returns-in-Some c = says_matched c.args.operand.now c.in-Some.sides.0.now c.in-Some.sides.1.now c.in-Some.ensures

pub returns : goal.returns
returns c = says_without c.args.operand.now c.in-Some-minus_operands.sides.0.now c.in-Some-minus_operands.sides.1.now c.in-Some-minus_operands.ensures
