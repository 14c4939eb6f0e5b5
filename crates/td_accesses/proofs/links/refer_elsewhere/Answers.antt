use Rattle.std.proofs.Common.{List, subst, arith}
use Rattle.std.specs.List.{All}
use Rattle.std.proofs.lemmas.List.{take_all}
use Rattle.std.proofs.lemmas.List.Elements.{All-more}
use Rattle.td_incremental.specs.declared.references.Reference.{Reference}
use Rattle.td_accesses.specs.ForProofs.Growing.{IsElsewhere}
use Rattle.td_accesses.proofs.links.refer_elsewhere.Goals as goal

pub loop-reference-preserved : goal.loop-reference-preserved
loop-reference-preserved c =
    let is = λ (r : Reference). IsElsewhere c.args.relvar c.args.links.now c.args.relation.now r in
    let r = c.reference-item.result in
    All-more is c.args.references.now c.loop-reference.reference-index r c.loop-reference-test.true c.loop-reference.invariant (subst is c.reference-item.is (c.in_ok-refers_elsewhere.ensures c.if-not-branch.false))

pub returns : goal.returns
returns c = λ _.
    let is = λ (r : Reference). IsElsewhere c.args.relvar c.args.links.now c.args.relation.now r in
    let end = c.loop-reference-test.false in
    subst (λ (rs : List Reference). All is rs) (take_all c.loop-reference.reference-index c.args.references.now (omega (arith, end))) c.loop-reference.invariant
