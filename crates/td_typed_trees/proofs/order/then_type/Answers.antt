use Rattle.std.proofs.Common.{sym, ◌∙◌}
use Rattle.td_values.specs.Proving.Total.{ty_tied}
use Rattle.td_typed_trees.proofs.Ties.{both_equal}
use Rattle.td_typed_trees.proofs.order.then_type.Goals as goal

pub returns-clause-same : goal.returns-clause-same
returns-clause-same c = λ h.
    ty_tied _ _ (sym c.compare_types.ensures ∙ (both_equal _ _ (sym c.then.ensures ∙ h)).1)
