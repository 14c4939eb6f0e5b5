use Rattle.td_frames.specs.Reading.{frame_at}
use Rattle.td_frames.proofs.Steps.{told_short, frame_empty}
use Rattle.td_frames.proofs.entry.read_frame.Goals as goal

pub returns-in-Err-clause-told : goal.returns-in-Err-clause-told
returns-in-Err-clause-told g c =
    let (bytes, taken, few) = c.in-Err.ensures.err in
    (bytes, taken, told_short c.in-Err.e 1 bytes (frame_at c.args.version bytes) _ _ _ (frame_empty c.args.version bytes) few)
