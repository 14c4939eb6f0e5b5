use Rattle.std.proofs.Common.{subst, sym}
use Rattle.td_relations.specs.Sets.{IsRelation}
use Rattle.td_relations.proofs.Members.{relation_is, relation_of_is}
use Rattle.td_relations.proofs.laws.one_relation_for_each_set.Goals as goal

pub returns : goal.returns
returns c h s r = (λ is. relation_is h s r is, λ e. subst (IsRelation h s) (sym e) (relation_of_is h s))
