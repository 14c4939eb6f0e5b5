use Rattle.std.proofs.Common.{subst, arith}
use Rattle.std.specs.List.{All}
use Rattle.std.proofs.lemmas.List.{take_all}
use Rattle.std.proofs.lemmas.List.Elements.{All-more}
use Rattle.td_accesses.specs.ForProofs.Growing.{LacksParts}
use Rattle.td_accesses.proofs.by_keys.all_differ.Goals as goal

pub loop-index-preserved : goal.loop-index-preserved
loop-index-preserved c =
    let s = c.args.relation.now in
    let x = c.index-item.result in
    All-more (LacksParts s) c.args.indexes.now c.loop-index.index-index x c.loop-index-test.true c.loop-index.invariant (subst (LacksParts s) c.index-item.is (c.differ.ensures c.if-not-differ.false))

pub returns : goal.returns
returns c = λ _.
    let end = c.loop-index-test.false in
    subst (All (LacksParts c.args.relation.now)) (take_all c.loop-index.index-index c.args.indexes.now (omega (arith, end))) c.loop-index.invariant
