-- What operands are seen as.
use Rattle.td_values.specs.Data.{Datum}
use Rattle.td_algebra.specs.Nested.{relation_value}
use Rattle.td_operators.specs.declared.operand.Operand.{Operand}
use Rattle.td_operators.specs.declared.operand.Operand.TheVariants as operand

abbrev pub operand_value : Operand → Datum
operand_value (operand.Made d) = d
operand_value (operand.Lent r) = relation_value r
