use Rattle.std.proofs.Common.{sym, ◌∙◌}
use Rattle.td_relations.proofs.Changes.{none_between, same_by_nothing}
use Rattle.td_relations.proofs.laws.only_equal_differ_by_nothing.Goals as goal

pub returns : goal.returns
returns c old new d same low up is = (
  λ none. same_by_nothing old new d.deleted d.inserted same low up _ _ is.deleted is.inserted none.1 none.0,
  λ p. (is.inserted.members ∙ none_between new old (sym p), is.deleted.members ∙ none_between old new p),
)
