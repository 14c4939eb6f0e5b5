use Rattle.td_frames.specs.Reading.{most_entries}
use Rattle.td_stream_bounds.proofs.Streams.{entries_found}
use Rattle.td_stream_bounds.proofs.laws.entries_are_found.Goals as goal

pub returns : goal.returns
returns c = entries_found most_entries
