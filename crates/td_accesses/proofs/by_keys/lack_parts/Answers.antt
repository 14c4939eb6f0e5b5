use Rattle.std.proofs.Common.{length, sym, subst, ◌∙◌, arith}
use Rattle.std.specs.List.{All}
use Rattle.std.proofs.lemmas.Bool.{eqb-true}
use Rattle.std.proofs.lemmas.List.{take_all}
use Rattle.std.proofs.lemmas.List.Elements.{All-more}
use Rattle.td_accesses.specs.ForProofs.Growing.{LacksPart}
use Rattle.td_accesses.proofs.Parting.{lacks_part}
use Rattle.td_accesses.proofs.by_keys.lack_parts.Goals as goal

pub loop-tuple-preserved : goal.loop-tuple-preserved
loop-tuple-preserved c =
    let x = c.args.index.now in
    let t = c.tuple-item.result in
    let found = c.with_key_of.result.now in
    let lacks = lacks_part x t found c.with_key_of.ensures (eqb-true (length found) 0 (sym c.is_empty.ensures ∙ c.if-not-is_empty.false)) in
    All-more (LacksPart x) c.args.tuples.now c.loop-tuple.tuple-index t c.loop-tuple-test.true c.loop-tuple.invariant (subst (LacksPart x) c.tuple-item.is lacks)

pub returns : goal.returns
returns c = λ _.
    let end = c.loop-tuple-test.false in
    subst (All (LacksPart c.args.index.now)) (take_all c.loop-tuple.tuple-index c.args.tuples.now (omega (arith, end))) c.loop-tuple.invariant
