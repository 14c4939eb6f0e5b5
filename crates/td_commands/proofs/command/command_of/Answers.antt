use Rattle.td_commands.proofs.Fronts.{line_faulty, line_read}
use Rattle.td_commands.proofs.command.command_of.Goals as goal

pub returns-in-Err : goal.returns-in-Err
returns-in-Err c = line_faulty c.args.line.now c.in-Err.ensures.cases.0

pub returns-in-Ok : goal.returns-in-Ok
returns-in-Ok c = line_read c.args.line.now c.in-Ok.line.now c.form.result c.unwrap_or.result c.if-line-gt-LINE_BYTES.false c.in-Ok.ensures.cases.0 c.in-Ok.ensures.cases.1 c.form.ensures c.unwrap_or.ensures
