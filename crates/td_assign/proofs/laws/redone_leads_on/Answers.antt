use Rattle.td_assign.proofs.Leading.{redone_leads_on}
use Rattle.td_assign.proofs.laws.redone_leads_on.Goals as goal

pub returns : goal.returns
returns c = redone_leads_on
