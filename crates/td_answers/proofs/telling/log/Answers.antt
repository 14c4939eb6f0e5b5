use Rattle.std.proofs.Common.{Ok, Err, refl, string_bytes}
use Rattle.td_answers.proofs.telling.log.Goals as goal

pub returns-in-Ok : goal.returns-in-Ok
returns-in-Ok g c = record { answer = Ok (string_bytes c.in-Ok.text); logs = c.in-Ok.ensures; lines = refl }

pub returns-in-Err : goal.returns-in-Err
returns-in-Err g c = record { answer = Err c.in-Err.error; logs = c.in-Err.ensures; lines = c.list_fault.ensures }
