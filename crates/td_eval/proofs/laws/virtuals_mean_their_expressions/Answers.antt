use Rattle.td_eval.proofs.Virtuals.{by_expressions}
use Rattle.td_eval.proofs.laws.virtuals_mean_their_expressions.Goals as goal

pub returns : goal.returns
returns c = by_expressions
