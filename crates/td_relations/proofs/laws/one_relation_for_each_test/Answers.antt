use Rattle.std.proofs.Common.{◌≡◌, true}
use Rattle.td_relations.proofs.Predicates.{one_relation}
use Rattle.td_relations.proofs.laws.one_relation_for_each_test.Goals as goal

pub returns : goal.returns
returns c h p r s = one_relation h (λ t. p t ≡ true) r s
