use Rattle.std.proofs.Common.{sym, ◌∙◌}
use Rattle.std.proofs.lemmas.Map.Lookups.{exact_bytes}
use Rattle.td_typed_trees.proofs.Ties.{both_equal}
use Rattle.td_typed_trees.proofs.order.then_name.Goals as goal

pub returns-clause-same : goal.returns-clause-same
returns-clause-same c = λ h. exact_bytes _ _ (sym c.compare.ensures ∙ (both_equal _ _ (sym c.then.ensures ∙ h)).1)
