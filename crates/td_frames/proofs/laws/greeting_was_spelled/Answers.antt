use Rattle.td_frames.proofs.GreetedSo.{greeting_was}
use Rattle.td_frames.proofs.laws.greeting_was_spelled.Goals as goal

pub returns : goal.returns
returns c = greeting_was
