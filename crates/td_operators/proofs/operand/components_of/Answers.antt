use Rattle.std.proofs.Common.{Ok, ap, sym, ◌∙◌}
use Rattle.td_values.specs.View.{datum_of}
use Rattle.td_operators.specs.ForProofs.Lent.{operand_value}
use Rattle.td_operators.specs.Values.{components_of}
use Rattle.td_operators.proofs.KindLemmas.{items_back}
use Rattle.td_operators.proofs.operand.components_of.Goals as goal

pub returns-in-User : goal.returns-in-User
returns-in-User g c =
    ap (λ o. components_of (operand_value o)) c.in-Made.is
    ∙ ap components_of (sym c.value.view_is)
    ∙ ap (λ k. components_of (datum_of k)) c.in-User.is
    ∙ ap Ok (items_back c.in-User.items ∙ sym c.values.ensures)
