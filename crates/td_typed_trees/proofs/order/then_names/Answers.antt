use Rattle.std.proofs.Common.{sym, ◌∙◌}
use Rattle.td_typed_trees.proofs.Ties.{both_equal, same_names}
use Rattle.td_typed_trees.proofs.order.then_names.Goals as goal

pub returns-clause-same : goal.returns-clause-same
returns-clause-same c = λ h.
    sym c.as_slice.ensures ∙ (same_names _ _ (sym c.cmp.ensures ∙ (both_equal _ _ (sym c.then.ensures ∙ h)).1) ∙ c.as_slice-2.ensures)
