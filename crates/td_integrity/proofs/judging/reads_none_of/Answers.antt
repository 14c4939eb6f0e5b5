use Rattle.std.proofs.Common.{arith, subst}
use Rattle.std.proofs.lemmas.List.{take_all}
use Rattle.td_integrity.specs.ForProofs.Changed.{Changes, ReadsNone}
use Rattle.td_integrity.proofs.After.{none_more}
use Rattle.td_integrity.proofs.judging.reads_none_of.Goals as goal

pub loop-change-preserved : goal.loop-change-preserved
loop-change-preserved c =
    none_more c.args.catalogue.now c.args.place c.args.changes.now c.loop-change.change-index c.change-item.result c.loop-change-test.true c.change-item.is c.loop-change.invariant
    (c.may_read.ensures c.if-may_read.false)

pub returns : goal.returns
returns c =
    let l = c.loop-change in
    let end = c.loop-change-test.false in
    λ none. subst (λ (cs : Changes). ReadsNone c.args.catalogue.now cs c.args.place) (take_all l.change-index c.args.changes.now (omega (arith, end))) l.invariant
