use Rattle.td_eval.proofs.ByKey.{all_by_keys}
use Rattle.td_eval.proofs.evaluation.lease_of.Goals as goal

pub kept-requires : goal.kept-requires
kept-requires g c = all_by_keys (g.L.Lookup.relvars c.args.lookup.now c.args.relvar) c.in-Ok.relation.now c.indexes.result.now c.in-Ok.ensures c.indexes.ensures
