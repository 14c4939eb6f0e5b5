use Rattle.std.proofs.Common.{arith}
use Rattle.std.proofs.lemmas.Str.Pattern.{strip_suffix_char}
use Rattle.td_commands.proofs.Fronts.{before_space_is}
use Rattle.td_commands.proofs.command.before_space.Goals as goal

pub returns : goal.returns
returns c = before_space_is c.args.text.now c.strip_suffix.result (strip_suffix_char 32 c.args.text.now _ c.strip_suffix.ensures.cases (omega arith))
