use Rattle.td_convergence.proofs.Room.{room_meets}
use Rattle.td_convergence.proofs.laws.room_meets.Goals as goal

pub returns : goal.returns
returns c = room_meets
