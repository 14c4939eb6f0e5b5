use Rattle.td_relations.proofs.Changes.{leads_to}
use Rattle.td_relations.proofs.laws.difference_leads_to_new.Goals as goal

pub returns : goal.returns
returns c old new result d same up is applied = leads_to old new result d.deleted d.inserted same up _ _ is.deleted is.inserted applied
