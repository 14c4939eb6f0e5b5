use Rattle.std.proofs.Common.{Ok, sym, ap, ◌∙◌}
use Rattle.td_values.specs.View.{datum_of}
use Rattle.td_operators.proofs.KindLemmas.{rows_back}
use Rattle.td_operators.proofs.operand.own_rows.Goals as goal

pub returns-in-Relation : goal.returns-in-Relation
returns-in-Relation g c = rows_back c.args.value c.in-Relation.rows (sym (sym (ap datum_of c.in-Relation.is) ∙ c.value.view_is)) ∙ ap Ok (sym (c.own.ensures ∙ c.of.ensures.same ∙ c.in-Relation.rows-is))
