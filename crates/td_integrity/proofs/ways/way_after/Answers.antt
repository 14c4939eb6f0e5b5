use Rattle.td_integrity.proofs.Gaining.{safe_stays, watched_over, watched_stays}
use Rattle.td_integrity.proofs.ways.way_after.Goals as goal

pub returns-then-branch : goal.returns-then-branch
returns-then-branch c =
    let x = c.args.change.now in
    let base = c.is_base_relvar.ensures c.if-not-is_base_relvar.false in
    safe_stays c.args.catalogue.now c.args.expr.now x.0 x.1 base c.deleted.result.now c.deleted.ensures (c.is_empty.ensures.0 c.if-is_empty.true) (c.in_ok-is_safe.ensures c.if-branch.true)

pub returns-then-is_empty-2 : goal.returns-then-is_empty-2
returns-then-is_empty-2 c =
    let x = c.args.change.now in
    let base = c.is_base_relvar.ensures c.if-not-is_base_relvar.false in
    watched_stays c.args.catalogue.now c.args.expr.now x.0 x.1 base c.inserted.result.now c.inserted.ensures (c.is_empty-2.ensures.0 c.if-is_empty-2.true) (c.in_ok-is_watched.ensures c.if-not-branch.false)

pub returns : goal.returns
returns c =
    let x = c.args.change.now in
    let base = c.is_base_relvar.ensures c.if-not-is_base_relvar.false in
    watched_over c.args.catalogue.now c.args.expr.now x.0 x.1 base c.inserted-2.result c.inserted-2.ensures (c.in_ok-is_watched.ensures c.if-not-branch.false)
