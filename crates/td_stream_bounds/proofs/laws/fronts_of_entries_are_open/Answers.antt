use Rattle.td_frames.specs.Reading.{most_entries}
use Rattle.td_stream_bounds.proofs.Streams.{fronts_open}
use Rattle.td_stream_bounds.proofs.laws.fronts_of_entries_are_open.Goals as goal

pub returns : goal.returns
returns c = fronts_open most_entries
