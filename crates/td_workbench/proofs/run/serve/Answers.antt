use Rattle.td_workbench.proofs.Serving.{serves_handed}
use Rattle.td_workbench.proofs.run.serve.Goals as goal

pub returns : goal.returns
returns g c = serves_handed _ _ c.args.reads.now _ _ _ _ _ _ c.serve_lines-ended.result c.hand_on.result c.serve_lines-ended.ensures c.hand_on.ensures
