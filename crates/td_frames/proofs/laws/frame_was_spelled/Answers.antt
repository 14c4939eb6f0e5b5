use Rattle.td_frames.proofs.Spelled.{frame_was}
use Rattle.td_frames.proofs.laws.frame_was_spelled.Goals as goal

pub returns : goal.returns
returns c = frame_was
