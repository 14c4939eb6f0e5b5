use Rattle.std.proofs.Common.{All, length, sym, subst, ◌∙◌, true≢false, eq-eqb, arith}
use Rattle.std.proofs.lemmas.List.{take_all}
use Rattle.std.proofs.lemmas.List.Elements.{All-more}
use Rattle.td_algebra.specs.Keys.{shares_part}
use Rattle.td_integrity.specs.ForProofs.Leaving.{HasPartIn}
use Rattle.td_integrity.proofs.Gaining.{some_found}
use Rattle.td_integrity.proofs.ways.have_parts.Goals as goal

pub loop-tuple-preserved : goal.loop-tuple-preserved
loop-tuple-preserved c =
    let x = c.args.index.now in
    let t = c.tuple-item.result in
    let found = some_found (shares_part x.key t) x.tuples c.with_key_of.result.now c.with_key_of.ensures
    (λ none. true≢false (sym (c.is_empty.ensures ∙ eq-eqb (length c.with_key_of.result.now) 0 none) ∙ c.if-is_empty.false)) in
    All-more (HasPartIn x) c.args.tuples.now c.loop-tuple.tuple-index t c.loop-tuple-test.true c.loop-tuple.invariant (subst (HasPartIn x) c.tuple-item.is found)

pub returns : goal.returns
returns c = λ _.
    let end = c.loop-tuple-test.false in
    subst (All (HasPartIn c.args.index.now)) (take_all c.loop-tuple.tuple-index c.args.tuples.now (omega (arith, end))) c.loop-tuple.invariant
