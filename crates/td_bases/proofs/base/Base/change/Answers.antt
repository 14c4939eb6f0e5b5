use Rattle.std.proofs.Common.{◌∙◌}
use Rattle.td_bases.proofs.Keyed.{based, same_first}
use Rattle.td_bases.proofs.base.Base.change.Goals as goal

pub returns-clause-ok : goal.returns-clause-ok
returns-clause-ok c =
    let first = c.count.ensures.first ∙ same_first c.keep_first.new.indexes.items c.change.new.indexes.items c.change.ensures.keys ∙ c.keep_first.ensures.first in
    based c.self.inside.relation c.change.new.relation c.self.inside.indexes.items c.count.new.indexes.items c.args.self.now c.args.delta.now c.self.view_is c.in_ok-change.ensures.ok first
