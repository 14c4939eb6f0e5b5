use Rattle.std.proofs.Common.{sym}
use Rattle.td_relations.proofs.Changes.{leads_to}
use Rattle.td_relations.proofs.laws.inverse_leads_back.Goals as goal

pub returns : goal.returns
returns c old new result d same up is applied = leads_to new old result d.inserted d.deleted (sym same) up _ _ is.inserted is.deleted applied
