use Rattle.td_values.proofs.AlikeLemmas.{tuples_alike}
use Rattle.td_values.proofs.laws.tuples_of_one_heading_compare_by_values.Goals as goal

pub returns : goal.returns
returns c = tuples_alike
