use Rattle.td_relations.specs.Deltas.{inverse_of}
use Rattle.td_bases.proofs.Keyed.{based, same_first}
use Rattle.td_bases.proofs.base.Base.take_back.Goals as goal

pub returns : goal.returns
returns c =
    based c.self.inside.relation c.take_back.new.relation c.self.inside.indexes.items c.take_back.new.indexes.items c.args.self.now (inverse_of c.args.delta.now) c.self.view_is c.take_back.ensures.back
    (same_first c.self.inside.indexes.items c.take_back.new.indexes.items c.take_back.ensures.keys)
