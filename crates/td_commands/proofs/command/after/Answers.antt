use Rattle.td_commands.proofs.Fronts.{after_is}
use Rattle.td_commands.proofs.command.after.Goals as goal

pub returns : goal.returns
returns c = after_is _ _ _ c.strip_prefix.ensures.cases
