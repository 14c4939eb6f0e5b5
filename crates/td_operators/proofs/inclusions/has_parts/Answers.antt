use Rattle.std.proofs.Common.{ap, sym, ◌∙◌}
use Rattle.td_values.specs.Data.{tuple}
use Rattle.td_values.specs.View.{datum_of}
use Rattle.td_tuples.specs.Parts.{cut}
use Rattle.td_algebra.specs.Functions.{project_of}
use Rattle.td_algebra.specs.Nested.{relation_value}
use Rattle.td_operators.specs.ForProofs.Lent.{operand_value}
use Rattle.td_operators.specs.Operators.{part_at}
use Rattle.td_operators.proofs.WithinParts.{relation_part}
use Rattle.td_operators.proofs.inclusions.has_parts.Goals as goal

pub returns-in-Tuple-clause-has : goal.returns-in-Tuple-clause-has
returns-in-Tuple-clause-has c = λ _ xs. (
  tuple (cut xs c.in-Tuple.field-0),
  ap (part_at xs) (ap operand_value c.in-Made.is ∙ sym c.value.view_is ∙ ap datum_of c.in-Tuple.is),
)

pub returns-in-Relation-clause-has : goal.returns-in-Relation-clause-has
returns-in-Relation-clause-has c = λ _ xs. (
  relation_value (project_of xs c.in-Relation.field-0),
  relation_part xs (operand_value c.args.operand.now) c.in-Relation.field-0 (ap operand_value c.in-Made.is ∙ sym c.value.view_is ∙ ap datum_of c.in-Relation.is),
)

pub returns-in-Lent-clause-has : goal.returns-in-Lent-clause-has
returns-in-Lent-clause-has c = λ _ xs. (
  relation_value (project_of xs c.in-Lent.field-0),
  relation_part xs (operand_value c.args.operand.now) c.in-Lent.field-0 (ap operand_value c.in-Lent.is),
)
