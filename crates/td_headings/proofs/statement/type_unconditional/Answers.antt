use Rattle.td_headings.specs.Statements.{types_assignment}
use Rattle.td_headings.proofs.statement.type_unconditional.Goals as goal

pub returns-in-Ok-clause-typed : goal.returns-in-Ok-clause-typed
returns-in-Ok-clause-typed c = types_assignment c.in-Ok.ensures.typed
