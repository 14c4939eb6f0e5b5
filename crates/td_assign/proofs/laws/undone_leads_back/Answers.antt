use Rattle.td_assign.proofs.Leading.{undone_leads_back}
use Rattle.td_assign.proofs.laws.undone_leads_back.Goals as goal

pub returns : goal.returns
returns c = undone_leads_back
