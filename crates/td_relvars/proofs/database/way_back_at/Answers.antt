use Rattle.td_relvars.proofs.Bases.{stands_kept}
use Rattle.td_relvars.proofs.Returning.{leads_from}
use Rattle.td_relvars.proofs.database.way_back_at.Goals as goal

pub returns-clause-way : goal.returns-clause-way
returns-clause-way c =
    let n = c.args.relvar in
    let xs = c.args.stored.now.items in
    let b = c.in-Some.base in
    let k = c.requires in
    let has = stands_kept n xs c.index_mut.result.now b c.index_mut.ensures.value c.in-Some.is k.relation k.has in
    leads_from _ n c.args.delta.now b.rows has c.way_back.result c.way_back.ensures.way
