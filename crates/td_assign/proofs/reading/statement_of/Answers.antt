use Rattle.std.proofs.Common.{Err, ap, ◌∙◌}
use Rattle.td_assign.proofs.Preparing.{without_reading, without_typing}
use Rattle.td_assign.proofs.reading.statement_of.Goals as goal

pub returns-in-Err-Syntax : goal.returns-in-Err-Syntax
returns-in-Err-Syntax c = without_reading c.args.catalogue.now c.args.dialect c.args.text.now (c.read_statement_in.ensures.syntax_only_without_one (c.in-Err-Syntax.is ∙ ap Err c.in-Err-Syntax.field-0-is))

pub returns-in-Err-IllTyped : goal.returns-in-Err-IllTyped
returns-in-Err-IllTyped c = without_typing c.args.catalogue.now c.args.dialect c.args.text.now c.in-Ok.statement c.in-Ok.ensures.tree (c.type_statement.ensures.refused (c.in-Err-IllTyped.is ∙ ap Err c.in-Err-IllTyped.field-0-is))
