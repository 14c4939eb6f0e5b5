use Rattle.td_eval.proofs.HasValues.{relvars_have_relations}
use Rattle.td_eval.proofs.laws.relvars_have_relations.Goals as goal

pub returns : goal.returns
returns c = relvars_have_relations
