use Rattle.std.proofs.Common.{sym, ◌∙◌}
use Rattle.std.proofs.lemmas.Map.Lookups.{exact_unsigned}
use Rattle.td_typed_trees.proofs.Operators.{same_unary}
use Rattle.td_typed_trees.proofs.order.unary_operators.Goals as goal

pub returns : goal.returns
returns c = λ h. same_unary _ _ (exact_unsigned _ _ (sym c.cmp.ensures ∙ h))
