use Rattle.std.proofs.Common.{Err, ap, ◌∙◌}
use Rattle.td_semantics.proofs.catalogue.catalogue_of.Goals as goal

pub returns-in-Err-Syntax : goal.returns-in-Err-Syntax
returns-in-Err-Syntax c = c.read_script.ensures.syntax_only_without_any (c.in-Err-Syntax.is ∙ ap Err c.in-Err-Syntax.field-0-is)
