use Rattle.std.proofs.lemmas.Result.{IfOk-weaker}
use Rattle.td_relations.proofs.Merging.{difference_of_kept}
use Rattle.td_relations.proofs.merges.minus.Goals as goal

pub returns : goal.returns
returns c = IfOk-weaker c.combine.result _ _ (λ r. difference_of_kept c.args.a.now.heading c.args.a.now c.args.b.now r) c.combine.ensures

pub returns-then-len : goal.returns-then-len
returns-then-len c = IfOk-weaker c.minus_by_searches.result _ _ (λ r. difference_of_kept c.args.a.now.heading c.args.a.now c.args.b.now r) c.minus_by_searches.ensures
