use Rattle.td_site_desk.proofs.Rights.{readers_change_nothing}
use Rattle.td_site_desk.proofs.laws.readers_change_nothing.Goals as goal

pub returns : goal.returns
returns c = readers_change_nothing
