use Rattle.std.proofs.Common.{[], take, sym, subst, arith}
use Rattle.td_tuples.proofs.Filters.{taken}
use Rattle.td_algebra.specs.ForProofs.Ends.{AreLinks}
use Rattle.td_algebra.proofs.Ending.{no_links, links_step}
use Rattle.td_algebra.proofs.Lists.{In, item_in}
use Rattle.td_algebra.proofs.closure.links_of.Goals as goal

pub loop-tuple-init : goal.loop-tuple-init
loop-tuple-init c =
    let a = c.args.first.now in
    let b = c.args.second.now in
    let ends = c.args.ends.now in
    subst (AreLinks a b ends []) (sym c.in_ok-links.ensures) (no_links a b ends)

pub loop-tuple-preserved : goal.loop-tuple-preserved
loop-tuple-preserved c =
    let a = c.args.first.now in
    let b = c.args.second.now in
    let ends = c.args.ends.now in
    let xs = c.tuples-tuple-items.result.now in
    let i = c.loop-tuple.tuple-index in
    let t = c.tuple-item.result in
    let there = subst (In t) c.tuples-tuple-items.ensures.all (item_in xs i t (omega arith) c.tuple-item.is) in
    subst (λ ts. AreLinks a b ends ts c.add_link.new.links) (sym (taken xs i t (omega arith) c.tuple-item.is))
    (links_step a b c.args.r.now c.tuples-tuple-items.ensures.rows c.requires.columns ends c.requires.all t there (take i xs) c.loop-tuple.links c.add_link.new.links c.loop-tuple.invariant c.in_ok-add_link.ensures)
