use Rattle.std.proofs.Common.{Ok, sym, ap, ◌∙◌}
use Rattle.td_values.specs.View.{datum_of}
use Rattle.td_operators.proofs.KindLemmas.{rows_back}
use Rattle.td_eval.proofs.valued.relation_in.Goals as goal

pub returns : goal.returns
returns c = rows_back c.args.value c.in-Relation.rows (sym (sym (ap datum_of c.in-Relation.is) ∙ c.value.view_is)) ∙ ap Ok (sym (c.of.ensures.same ∙ c.in-Relation.rows-is))
