use Rattle.td_relations.proofs.Predicates.{of_set, set_of}
use Rattle.td_relations.proofs.laws.relations_are_their_members.Goals as goal

pub returns : goal.returns
returns c h s r = (of_set h s r, set_of h s r)
