use Rattle.td_stream_bounds.proofs.Greetings.{none_follows}
use Rattle.td_stream_bounds.proofs.laws.no_greeting_follows.Goals as goal

pub returns : goal.returns
returns c = none_follows
