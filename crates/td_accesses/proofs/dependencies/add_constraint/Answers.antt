use Rattle.std.proofs.Common.{List, ℕ, rules, subst, arith}
use Rattle.std.specs.List.{All}
use Rattle.std.proofs.lemmas.List.{take_all}
use Rattle.td_accesses.specs.ForProofs.Depending.{TellsAll}
use Rattle.td_accesses.proofs.Depending.{all_in_turn, all_themselves, tells_further}
use Rattle.td_accesses.proofs.dependencies.add_constraint.Goals as goal

pub loop-relvar-init : goal.loop-relvar-init
loop-relvar-init c = record { kept = all_themselves c.args.all.now.items; told = search rules }

pub loop-relvar-preserved : goal.loop-relvar-preserved
loop-relvar-preserved c =
    let l = c.loop-relvar in
    let xs = l.all.items in
    let ys = c.add_constraint_at.new.all.items in
    record {
      kept = all_in_turn c.args.all.now.items xs ys l.invariant.kept c.in_ok-add_constraint_at.ensures.kept;
      told = tells_further c.args.catalogue.now c.args.expr.now.tree c.args.relvars.now l.relvar-index 0 xs ys c.loop-relvar-test.true c.in_ok-add_constraint_at.ensures.kept c.in_ok-add_constraint_at.ensures.told l.invariant.told;
    }

pub returns-clause-told : goal.returns-clause-told
returns-clause-told c =
    let l = c.loop-relvar in
    let end = c.loop-relvar-test.false in
    subst (λ (ns : List ℕ). All (TellsAll c.args.catalogue.now c.args.expr.now.tree l.all.items) ns) (take_all l.relvar-index c.args.relvars.now (omega (arith, end))) l.invariant.told
