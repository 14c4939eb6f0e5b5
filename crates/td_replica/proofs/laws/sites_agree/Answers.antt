use Rattle.td_replica.proofs.Agreeing.{sites_agree}
use Rattle.td_replica.proofs.laws.sites_agree.Goals as goal

pub returns : goal.returns
returns c = sites_agree
