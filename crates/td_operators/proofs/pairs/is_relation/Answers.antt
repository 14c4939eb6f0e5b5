use Rattle.std.proofs.Common.{ap, sym, ◌∙◌}
use Rattle.td_values.specs.View.{datum_of}
use Rattle.td_operators.proofs.KindLemmas.{rows_tested}
use Rattle.td_operators.proofs.pairs.is_relation.Goals as goal

pub returns-in-Relation : goal.returns-in-Relation
returns-in-Relation c =
    rows_tested c.args.value.now c.heading.result.now c.heading-in-Relation.result.now c.tuples.result.now c.tuples-in-Relation.result.now c.in-Relation.rows c.args.r.now c.same_rows.result
    (sym c.value.view_is ∙ ap datum_of c.in-Relation.is) c.heading.ensures c.tuples.ensures.all c.heading-in-Relation.ensures c.tuples-in-Relation.ensures.all c.same_rows.ensures
