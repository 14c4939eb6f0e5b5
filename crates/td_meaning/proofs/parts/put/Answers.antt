use Rattle.std.proofs.Common.{subst, sym, ap, ◌∙◌}
use Rattle.td_meaning.specs.Parts.{AreRight, known_value}
use Rattle.td_meaning.proofs.Rightness.{right_with}
use Rattle.td_meaning.proofs.parts.put.Goals as goal

pub returns : goal.returns
returns c env old new =
    subst (AreRight env) (sym c.in_ok-insert.ensures.items)
    (right_with env c.args.parts.now.items c.match-binary_search_by.at (record { tree = c.args.tree; value = c.in_ok-value.value }) old (λ names. new names ∙ ap known_value (sym c.in_ok-value.ensures)))
