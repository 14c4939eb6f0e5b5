use Rattle.td_stream_bounds.proofs.Greetings.{front_is_open}
use Rattle.td_stream_bounds.proofs.laws.fronts_of_greetings_are_open.Goals as goal

pub returns : goal.returns
returns c = front_is_open
