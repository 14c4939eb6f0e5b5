use Rattle.std.proofs.Common.{List, subst, arith}
use Rattle.std.specs.List.{All}
use Rattle.std.proofs.lemmas.List.{take_all}
use Rattle.std.proofs.lemmas.List.Elements.{All-more}
use Rattle.td_accesses.specs.ForProofs.Accessed.{DiffersFrom}
use Rattle.td_accesses.specs.declared.accesses.Insertions.{Insertions}
use Rattle.td_accesses.proofs.accesses.all_differ_from.Goals as goal

pub loop-insertions-preserved : goal.loop-insertions-preserved
loop-insertions-preserved c =
    let is = λ (g : Insertions). DiffersFrom c.args.dependencies.now.relvars.items c.args.reads.now c.args.writes.now c.args.relvar c.args.relation.now g in
    let g = c.insertions-item.result in
    All-more is c.args.all.now c.loop-insertions.insertions-index g c.loop-insertions-test.true c.loop-insertions.invariant (subst is c.insertions-item.is (c.in_ok-differs_from.ensures c.if-not-branch.false))

pub returns : goal.returns
returns c = λ _.
    let is = λ (g : Insertions). DiffersFrom c.args.dependencies.now.relvars.items c.args.reads.now c.args.writes.now c.args.relvar c.args.relation.now g in
    let end = c.loop-insertions-test.false in
    subst (λ (gs : List Insertions). All is gs) (take_all c.loop-insertions.insertions-index c.args.all.now (omega (arith, end))) c.loop-insertions.invariant
