use Rattle.td_stream_bounds.proofs.Greetings.{greeting_is_found}
use Rattle.td_stream_bounds.proofs.laws.greetings_are_found.Goals as goal

pub returns : goal.returns
returns c = greeting_is_found
