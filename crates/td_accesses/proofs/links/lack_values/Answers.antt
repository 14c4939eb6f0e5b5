use Rattle.std.proofs.Common.{List, length, sym, ap, subst, ◌∙◌, arith}
use Rattle.std.specs.List.{All}
use Rattle.std.proofs.lemmas.Bool.{eqb-true}
use Rattle.std.proofs.lemmas.List.{take_all}
use Rattle.std.proofs.lemmas.List.Elements.{All-more}
use Rattle.td_values.specs.Data.{Attrs}
use Rattle.td_accesses.specs.ForProofs.Growing.{LacksPart}
use Rattle.td_accesses.proofs.Parting.{lacks_values}
use Rattle.td_accesses.proofs.links.lack_values.Goals as goal

pub loop-tuple-preserved : goal.loop-tuple-preserved
loop-tuple-preserved c =
    let x = c.args.link.now in
    let t = c.tuple-item.result in
    let lent = c.tuples-in-loop-tuple.result.now in
    let none = ap (λ (ts : List Attrs). length ts) (sym c.tuples-in-loop-tuple.ensures.all) ∙ eqb-true (length lent) 0 (sym c.if-not-is_empty.ensures) in
    let lacks = lacks_values x t c.in_ok-found.field-0 c.in_ok-found.ensures none in
    All-more (LacksPart x) c.args.tuples.now c.loop-tuple.tuple-index t c.loop-tuple-test.true c.loop-tuple.invariant (subst (LacksPart x) c.tuple-item.is lacks)

pub returns : goal.returns
returns c = λ _.
    let end = c.loop-tuple-test.false in
    subst (All (LacksPart c.args.link.now)) (take_all c.loop-tuple.tuple-index c.args.tuples.now (omega (arith, end))) c.loop-tuple.invariant
