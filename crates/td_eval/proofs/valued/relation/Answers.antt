use Rattle.td_eval.proofs.Told.{rows_typed}
use Rattle.td_eval.proofs.valued.relation.Goals as goal

pub returns-in-Ok-clause-typed : goal.returns-in-Ok-clause-typed
returns-in-Ok-clause-typed g c = rows_typed c.args.catalogue.now.schema c.args.heading.now c.args.expr.now.kind c.in-Ok.value c.relation_in.result c.requires.kind c.in-Ok.ensures.typed c.relation_in.ensures
