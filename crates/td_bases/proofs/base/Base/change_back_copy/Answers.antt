use Rattle.td_relations.specs.Deltas.{inverse_of}
use Rattle.td_bases.proofs.Keyed.{based_on, same_first}
use Rattle.td_bases.proofs.base.Base.change_back_copy.Goals as goal

pub returns-clause-ok : goal.returns-clause-ok
returns-clause-ok c =
    based_on c.undo.result c.self.inside.relation c.undo.new.relation c.self.inside.indexes.items c.undo.new.indexes.items c.args.self.now (inverse_of c.args.delta.now) c.self.view_is c.undo.ensures.ok
    (same_first c.self.inside.indexes.items c.undo.new.indexes.items c.undo.ensures.keys)
