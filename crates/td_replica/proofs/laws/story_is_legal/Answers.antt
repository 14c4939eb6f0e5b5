use Rattle.td_replica.proofs.Agreeing.{story_is_legal}
use Rattle.td_replica.proofs.laws.story_is_legal.Goals as goal

pub returns : goal.returns
returns c = story_is_legal
