use Rattle.td_frames.proofs.GreetedAgain.{greeting_again}
use Rattle.td_frames.proofs.laws.greeting_is_read_again.Goals as goal

pub returns : goal.returns
returns c = greeting_again
