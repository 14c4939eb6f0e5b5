use Rattle.std.proofs.Common.{rules, string_bytes}
use Rattle.td_log_lines.proofs.lines.LogLines.line.Goals as goal

pub returns-clause-printed : goal.returns-clause-printed
returns-clause-printed c = (string_bytes c.in_ok-time.time, c.in_ok-time.ensures, search rules, search rules)
