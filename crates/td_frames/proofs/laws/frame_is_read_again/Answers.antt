use Rattle.td_frames.proofs.Again.{frame_again}
use Rattle.td_frames.proofs.laws.frame_is_read_again.Goals as goal

pub returns : goal.returns
returns c = frame_again
