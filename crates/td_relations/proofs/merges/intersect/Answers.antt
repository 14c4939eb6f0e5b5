use Rattle.std.proofs.lemmas.Result.{IfOk-weaker}
use Rattle.td_relations.proofs.Merging.{intersection_of_kept}
use Rattle.td_relations.proofs.merges.intersect.Goals as goal

pub returns : goal.returns
returns c = IfOk-weaker c.combine.result _ _ (λ r. intersection_of_kept c.args.a.now.heading c.args.a.now c.args.b.now r) c.combine.ensures
