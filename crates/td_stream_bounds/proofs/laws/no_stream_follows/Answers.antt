use Rattle.td_frames.specs.Reading.{most_entries}
use Rattle.td_stream_bounds.proofs.Scans.{none_follows}
use Rattle.td_stream_bounds.proofs.laws.no_stream_follows.Goals as goal

pub returns : goal.returns
returns c = none_follows most_entries
