use Rattle.std.proofs.Common.{◌∙◌}
use Rattle.td_values.proofs.AlikeLemmas.{tuples_alike}
use Rattle.td_values.proofs.alike.compare_alike.Goals as goal

pub returns : goal.returns
returns c = c.compare_values.ensures ∙ tuples_alike _ _ c.whole_tuple.ensures c.whole_tuple-2.ensures c.requires
