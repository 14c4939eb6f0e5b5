use Rattle.std.proofs.Common.{sym, ap, ◌∙◌}
use Rattle.std.specs.FinSet as set
use Rattle.std.proofs.lemmas.Bool.Decides.{Decides-eqb}
use Rattle.td_values.specs.Order.{attrs_order}
use Rattle.td_relations.proofs.Relation.is_empty.Goals as goal

pub returns : goal.returns
returns c =
    let zero = Decides-eqb c.len.result 0 in
    (λ t. set.empty_of_len _ (sym c.len.ensures ∙ zero.0 t), λ e. zero.1 (c.len.ensures ∙ ap set.len e ∙ set.len-empty attrs_order))
