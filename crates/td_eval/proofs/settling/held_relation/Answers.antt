use Rattle.std.proofs.Common.{Ok, sym, ap, ◌∙◌}
use Rattle.td_values.specs.View.{datum_of}
use Rattle.td_algebra.specs.Nested.{relation_value}
use Rattle.td_algebra.specs.Raising.{and_then}
use Rattle.td_operators.specs.Operators.{as_value}
use Rattle.td_operators.proofs.KindLemmas.{rows_back}
use Rattle.td_eval.proofs.settling.held_relation.Goals as goal

pub returns-in-Relation : goal.returns-in-Relation
returns-in-Relation c =
    ap (λ r. Ok (relation_value r)) (c.of.ensures.same ∙ c.in-Relation.rows-is)
    ∙ ap (λ m. and_then m as_value) (sym (rows_back c.args.value c.in-Relation.rows (sym (sym (ap datum_of c.in-Relation.is) ∙ c.value.view_is))))
