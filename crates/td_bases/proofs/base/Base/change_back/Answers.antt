use Rattle.std.proofs.Common.{◌∙◌}
use Rattle.td_relations.specs.Deltas.{inverse_of}
use Rattle.td_bases.proofs.Keyed.{based, same_first}
use Rattle.td_bases.proofs.base.Base.change_back.Goals as goal

pub returns-clause-ok : goal.returns-clause-ok
returns-clause-ok c =
    let first = c.count.ensures.first ∙ same_first c.keep_first.new.indexes.items c.undo.new.indexes.items c.undo.ensures.keys ∙ c.keep_first.ensures.first in
    based c.self.inside.relation c.undo.new.relation c.self.inside.indexes.items c.count.new.indexes.items c.args.self.now (inverse_of c.args.delta.now) c.self.view_is c.in_ok-undo.ensures.ok first
