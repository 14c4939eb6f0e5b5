use Rattle.td_site_desk.proofs.Keyed.{answered_are_held}
use Rattle.td_site_desk.proofs.laws.answered_are_held.Goals as goal

pub returns : goal.returns
returns c = answered_are_held
