use Rattle.std.proofs.Common.{subst}
use Rattle.td_algebra.specs.Raising.{Answers}
use Rattle.td_operators.specs.ForProofs.Lent.{operand_value}
use Rattle.td_operators.proofs.WithinParts.{within_is}
use Rattle.td_operators.proofs.inclusions.is_within_part.Goals as goal

pub returns-then-is_other-2 : goal.returns-then-is_other-2
returns-then-is_other-2 g c =
    subst (Answers c.are_within.result) (within_is c.args.names.now (operand_value c.args.u) (operand_value c.args.whole) (c.is_other.ensures c.if-is_other.true) (c.is_other-then-is_other.ensures c.if-is_other-2.true)) c.are_within.ensures
