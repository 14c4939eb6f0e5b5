use Rattle.std.proofs.Common.{sym, ◌∙◌}
use Rattle.td_eval.proofs.ByKey.{given_at}
use Rattle.td_eval.proofs.by_key.value_named.Goals as goal

pub returns-then-eq : goal.returns-then-eq
returns-then-eq c = given_at c.args.values.now c.loop-given.given-index c.given-item.result c.args.name.now c.loop-given-test.true c.given-item.is (sym c.eq.ensures ∙ c.if-eq.true)
