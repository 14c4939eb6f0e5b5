use Rattle.std.proofs.Common.{◌∷◌, ◌++◌, [], ◌∙◌}
use Rattle.td_operators.proofs.Dee.{dee_fits}
use Rattle.td_operators.proofs.tuples.table_dee.Goals as goal

pub relation_from-requires : goal.relation_from-requires
relation_from-requires c =
    dee_fits c.in_ok-heading.heading c.push.new.self.items c.in_ok-heading.ensures
    (c.in_ok-push.ensures.items ∙ (λ i. c.in_ok-tuples.ensures.items i ++ c.in_ok-empty_tuple.ensures i ∷ []))
