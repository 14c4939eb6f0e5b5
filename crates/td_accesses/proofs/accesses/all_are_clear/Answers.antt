use Rattle.std.proofs.Common.{List, subst, arith}
use Rattle.std.specs.List.{All}
use Rattle.std.proofs.lemmas.List.{take_all}
use Rattle.std.proofs.lemmas.List.Elements.{All-more}
use Rattle.td_accesses.specs.ForProofs.Accessed.{IsClearOf}
use Rattle.td_accesses.specs.declared.accesses.Insertions.{Insertions}
use Rattle.td_accesses.proofs.accesses.all_are_clear.Goals as goal

pub loop-insertions-preserved : goal.loop-insertions-preserved
loop-insertions-preserved c =
    let is = λ (g : Insertions). IsClearOf c.args.reads.now c.args.writes.now g in
    let g = c.insertions-item.result in
    All-more is c.args.all.now c.loop-insertions.insertions-index g c.loop-insertions-test.true c.loop-insertions.invariant (subst is c.insertions-item.is (c.is_clear_of.ensures c.if-not-is_clear_of.false))

pub returns : goal.returns
returns c = λ _.
    let is = λ (g : Insertions). IsClearOf c.args.reads.now c.args.writes.now g in
    let end = c.loop-insertions-test.false in
    subst (λ (gs : List Insertions). All is gs) (take_all c.loop-insertions.insertions-index c.args.all.now (omega (arith, end))) c.loop-insertions.invariant
