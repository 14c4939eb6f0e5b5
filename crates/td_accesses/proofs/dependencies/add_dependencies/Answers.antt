use Rattle.std.proofs.Common.{List, ℕ, rules, subst, arith}
use Rattle.std.specs.List.{All}
use Rattle.std.proofs.lemmas.List.{take_all}
use Rattle.td_accesses.specs.ForProofs.Depending.{DependsOnOther}
use Rattle.td_accesses.proofs.Depending.{grown_itself, grown_in_turn, depends_further}
use Rattle.td_accesses.proofs.dependencies.add_dependencies.Goals as goal

pub loop-other-init : goal.loop-other-init
loop-other-init c = record { kept = grown_itself c.args.dependencies.now; depends = search rules }

pub loop-other-preserved : goal.loop-other-preserved
loop-other-preserved c =
    let l = c.loop-other in
    record {
      kept = grown_in_turn c.args.dependencies.now l.dependencies c.add_if_other.new.dependencies l.invariant.kept c.in_ok-add_if_other.ensures.kept;
      depends = depends_further c.args.catalogue.now c.args.relvar c.args.expr.now.tree c.args.others.now l.other-index 0 l.dependencies c.add_if_other.new.dependencies c.loop-other-test.true c.in_ok-add_if_other.ensures.kept c.in_ok-add_if_other.ensures.depends l.invariant.depends;
    }

pub returns-clause-depends : goal.returns-clause-depends
returns-clause-depends c =
    let l = c.loop-other in
    let end = c.loop-other-test.false in
    subst (λ (ns : List ℕ). All (DependsOnOther c.args.catalogue.now c.args.relvar c.args.expr.now.tree l.dependencies) ns) (take_all l.other-index c.args.others.now (omega (arith, end))) l.invariant.depends
