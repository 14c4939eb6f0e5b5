use Rattle.std.proofs.Common.{subst, arith}
use Rattle.td_algebra.specs.KeyIndexes.{KeyIndexData}
use Rattle.td_algebra.proofs.Walks.{at_item}
use Rattle.td_eval.specs.Keyed.{IsByKey}
use Rattle.td_integrity.proofs.judging.index_by.Goals as goal

pub returns-then-is_of : goal.returns-then-is_of
returns-then-is_of g c =
    let m = g.L.Lookup.relvars c.args.lookup.now c.args.relvar in
    let x = c.index-item.result in
    let by = at_item (λ (y : KeyIndexData). IsByKey m y.key y) c.indexes-index-items.result.now c.loop-index.index-index x (omega arith) c.index-item.is c.indexes-index-items.ensures in
    subst (λ key. IsByKey m key x) (c.is_of.ensures.0 c.if-is_of.true) by
