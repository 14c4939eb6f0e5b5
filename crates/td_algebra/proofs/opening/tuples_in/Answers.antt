use Rattle.std.proofs.Common.{sym, ap, ◌∙◌}
use Rattle.td_values.specs.View.{datum_of}
use Rattle.td_algebra.proofs.Openings.{fit_tuple, relation_tuples, fit_relation}
use Rattle.td_algebra.proofs.opening.tuples_in.Goals as goal

pub returns-in-Tuple-clause-fit : goal.returns-in-Tuple-clause-fit
returns-in-Tuple-clause-fit c =
    fit_tuple c.args.value.now c.in-Tuple.t c.from_ref.result.now (sym (ap datum_of c.in-Tuple.is) ∙ c.value.view_is) c.from_ref.ensures.value c.whole_tuple.ensures

pub returns-in-Relation-clause-all : goal.returns-in-Relation-clause-all
returns-in-Relation-clause-all c =
    relation_tuples c.args.value.now c.in-Relation.rows.heading c.in-Relation.rows.tuples c.tuples.result.now (sym (ap datum_of c.in-Relation.is) ∙ c.value.view_is) c.tuples.ensures.all

pub returns-in-Relation-clause-fit : goal.returns-in-Relation-clause-fit
returns-in-Relation-clause-fit c =
    fit_relation c.args.value.now c.in-Relation.rows.heading c.in-Relation.rows.tuples c.tuples.result.now (sym (ap datum_of c.in-Relation.is) ∙ c.value.view_is) c.tuples.ensures.all c.tuples.ensures.rows.fit
