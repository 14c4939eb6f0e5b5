use Rattle.std.proofs.lemmas.Result.{IfOk-weaker}
use Rattle.td_integrity.proofs.Keys.{tested}
use Rattle.td_integrity.proofs.judging.is_key.Goals as goal

pub returns : goal.returns
returns c = IfOk-weaker c.tell_apart.result _ _ (λ b says. tested c.args.key.now c.args.relation.now b c.rows_fit.ensures.ascending says) c.tell_apart.ensures
