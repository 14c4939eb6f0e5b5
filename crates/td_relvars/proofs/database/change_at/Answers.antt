use Rattle.td_relations.specs.Deltas.{inverse_of}
use Rattle.td_relvars.proofs.Bases.{base_changed, keys_stay_on, stands_kept}
use Rattle.td_relvars.proofs.database.change_at.Goals as goal

pub returns-clause-ok : goal.returns-clause-ok
returns-clause-ok c =
    let n = c.args.relvar in
    let xs = c.args.stored.now.items in
    let b = c.in-Some.base in
    let has = stands_kept n xs c.index_mut.result.now b c.index_mut.ensures.value c.in-Some.is c.requires.relation c.requires.has in
    base_changed c.change.result n xs b c.change.new.self c.args.delta.now has c.change.ensures.ok

pub returns-clause-keys : goal.returns-clause-keys
returns-clause-keys c =
    keys_stay_on c.args.relvar c.args.stored.now.items c.index_mut.result.now c.in-Some.base c.index_mut.ensures.value c.in-Some.is c.change.result c.change.new.self c.args.delta.now c.change.ensures.ok
