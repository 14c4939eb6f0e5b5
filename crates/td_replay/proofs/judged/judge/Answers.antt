use Rattle.std.proofs.Common.{Err, ap, ◌∙◌}
use Rattle.td_replay.proofs.judged.judge.Goals as goal

pub returns-in-Err-Syntax : goal.returns-in-Err-Syntax
returns-in-Err-Syntax c = c.read_statement_in.ensures.syntax_only_without_one (c.in-Err-Syntax.is ∙ ap Err c.in-Err-Syntax.field-0-is)
