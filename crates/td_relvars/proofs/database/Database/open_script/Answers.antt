use Rattle.td_relvars.proofs.Told.{legal}
use Rattle.td_relvars.proofs.database.Database.open_script.Goals as goal

pub returns-clause-legal : goal.returns-clause-legal
returns-clause-legal c = legal c.in-Ok-open_in_order.database c.judge_tests.result c.judge_tests.ensures
