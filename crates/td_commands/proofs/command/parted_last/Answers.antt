use Rattle.td_commands.proofs.Lasts.{parted_last_is}
use Rattle.td_commands.proofs.command.parted_last.Goals as goal

pub returns : goal.returns
returns c = parted_last_is c.args.c c.args.line.now c.rsplit_once.result c.rsplit_once.ensures.cases c.requires
