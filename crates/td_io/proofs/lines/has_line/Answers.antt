use Rattle.std.proofs.Common.{◌∙◌}
use Rattle.td_io.proofs.Contents.{has_line_end}
use Rattle.td_io.proofs.lines.has_line.Goals as goal

pub returns : goal.returns
returns c = c.contains.ensures.value ∙ has_line_end c.args.bytes.now
