use Rattle.td_insertions.proofs.Writing.{by_its_assignment}
use Rattle.td_insertions.proofs.written.written_insertion.Goals as goal

pub returns-in-Some : goal.returns-in-Some
returns-in-Some c = by_its_assignment c.args.statement.now c.in-Some.assignment.now c.in-Some.ensures c.written_by.result c.written_by.ensures
