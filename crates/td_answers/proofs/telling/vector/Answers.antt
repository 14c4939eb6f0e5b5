use Rattle.std.proofs.Common.{Ok, Err, refl, string_bytes}
use Rattle.td_answers.proofs.telling.vector.Goals as goal

pub returns-in-Ok : goal.returns-in-Ok
returns-in-Ok g c = record { answer = Ok (string_bytes c.in-Ok.text); counts = c.in-Ok.ensures; line = refl }

pub returns-in-Err : goal.returns-in-Err
returns-in-Err g c = record { answer = Err c.in-Err.error; counts = c.in-Err.ensures; line = c.list_fault.ensures }
