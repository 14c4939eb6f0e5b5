use Rattle.td_relvars.proofs.Copies.{part_belongs}
use Rattle.td_relvars.proofs.laws.part_belongs.Goals as goal

pub returns : goal.returns
returns c = part_belongs
