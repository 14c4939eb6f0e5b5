use Rattle.std.proofs.Common.{Err, ap, ◌∙◌}
use Rattle.td_type_errors.proofs.Excluded.{unread_statement, typed_statement}
use Rattle.td_type_errors.proofs.diagnose.ill_typed_statement.Goals as goal

pub returns-in-Err-Syntax : goal.returns-in-Err-Syntax
returns-in-Err-Syntax c =
    unread_statement c.args.catalogue.now c.args.text.now (c.read_statement.ensures.syntax_only_without_one (c.in-Err-Syntax.is ∙ ap Err c.in-Err-Syntax.field-0-is))

pub returns-in-Ok-type_statement : goal.returns-in-Ok-type_statement
returns-in-Ok-type_statement c =
    typed_statement c.args.catalogue.now c.args.text.now c.in-Ok.statement c.in-Ok-type_statement.field-0 c.in-Ok.ensures.tree c.in-Ok-type_statement.ensures.typed
