use Rattle.td_site_desk.proofs.Keyed.{keys_act_once}
use Rattle.td_site_desk.proofs.laws.keys_act_once.Goals as goal

pub returns : goal.returns
returns c = keys_act_once
