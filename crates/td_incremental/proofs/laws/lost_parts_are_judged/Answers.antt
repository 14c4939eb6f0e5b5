use Rattle.td_incremental.proofs.LostParts.{lost_parts_are_judged}
use Rattle.td_incremental.proofs.laws.lost_parts_are_judged.Goals as goal

pub returns : goal.returns
returns c = lost_parts_are_judged
