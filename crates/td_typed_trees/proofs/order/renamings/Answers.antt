use Rattle.std.proofs.Common.{sym, ◌∙◌}
use Rattle.td_typed_trees.proofs.Ties.{same_renamings}
use Rattle.td_typed_trees.proofs.order.renamings.Goals as goal

pub returns : goal.returns
returns c = λ h. sym c.as_slice.ensures ∙ (same_renamings _ _ (sym c.cmp.ensures ∙ h) ∙ c.as_slice-2.ensures)
