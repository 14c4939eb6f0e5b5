use Rattle.td_eval.proofs.HasValues.{trees_have_values}
use Rattle.td_eval.proofs.laws.trees_have_values.Goals as goal

pub returns : goal.returns
returns c = trees_have_values
