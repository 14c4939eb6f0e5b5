use Rattle.td_eval.proofs.ByKey.{all_by_keys}
use Rattle.td_eval.proofs.lookup.Lookup.keyed.Goals as goal

pub found-requires : goal.found-requires
found-requires g c = all_by_keys (g.Self.Lookup.relvars c.args.self.now c.args.relvar) c.in-Ok.relation.now c.indexes.result.now c.in-Ok.ensures c.indexes.ensures
