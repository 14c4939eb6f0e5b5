use Rattle.std.proofs.Common.{ap, ◌∙◌}
use Rattle.std.specs.Ordering.{is_eq}
use Rattle.td_algebra.proofs.Closing.{binary_tested}
use Rattle.td_algebra.proofs.closure.is_binary.Goals as goal

pub returns-then-fields-eq2 : goal.returns-then-fields-eq2
returns-then-fields-eq2 c =
    binary_tested c.args.heading.now c.fields-fields.result.now c.index-fields-0.result c.index-fields-1.result c.is_eq.result c.fields-fields.ensures c.if-fields-eq2.true (c.is_eq.ensures ∙ ap is_eq c.compare_types.ensures)
