use Rattle.td_site_desk.proofs.Rights.{writers_only_write}
use Rattle.td_site_desk.proofs.laws.writers_only_write.Goals as goal

pub returns : goal.returns
returns c = writers_only_write
