use Rattle.td_stamps.proofs.Fronts.{front_is_shared}
use Rattle.td_stamps.proofs.laws.front_is_shared.Goals as goal

pub returns : goal.returns
returns c = front_is_shared
