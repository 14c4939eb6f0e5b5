use Rattle.std.proofs.Common.{Ok, Err, refl}
use Rattle.td_answers.proofs.telling.table.Goals as goal

pub returns-in-Ok : goal.returns-in-Ok
returns-in-Ok g c = record { answer = Ok c.in-Ok.text.items; tabulates = c.in-Ok.ensures; records = refl }

pub returns-in-Err : goal.returns-in-Err
returns-in-Err g c = record { answer = Err c.in-Err.error; tabulates = c.in-Err.ensures; records = c.table_fault.ensures }
