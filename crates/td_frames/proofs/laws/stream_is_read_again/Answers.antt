use Rattle.td_frames.proofs.Again.{stream_again}
use Rattle.td_frames.proofs.laws.stream_is_read_again.Goals as goal

pub returns : goal.returns
returns c = stream_again
