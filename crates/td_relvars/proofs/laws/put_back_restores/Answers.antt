use Rattle.td_relvars.proofs.Copies.{put_back_restores}
use Rattle.td_relvars.proofs.laws.put_back_restores.Goals as goal

pub returns : goal.returns
returns c = put_back_restores
