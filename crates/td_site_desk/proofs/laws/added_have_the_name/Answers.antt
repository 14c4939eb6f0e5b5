use Rattle.td_site_desk.proofs.Keyed.{added_have_the_name}
use Rattle.td_site_desk.proofs.laws.added_have_the_name.Goals as goal

pub returns : goal.returns
returns c = added_have_the_name
