use Rattle.std.proofs.Common.{List, ◌∙◌, subst, arith}
use Rattle.std.specs.List.{All}
use Rattle.std.proofs.lemmas.List.{take_all}
use Rattle.td_headings.specs.declared.defined.Test.{Test}
use Rattle.td_accesses.specs.ForProofs.Depending.{TellsTest}
use Rattle.td_accesses.proofs.Depending.{are_dependencies, tests_further}
use Rattle.td_accesses.proofs.dependencies.Dependencies.of.Goals as goal

pub loop-place-preserved : goal.loop-place-preserved
loop-place-preserved c =
    let l = c.loop-place in
    tests_further c.args.catalogue.now c.tests-tests.result.now l.place c.index-tests-place.result l.relvars.items c.add_test.new.all.items c.loop-place-test.true c.index-tests-place.is c.in_ok-add_test.ensures.kept c.in_ok-add_test.ensures.told l.invariant

pub returns : goal.returns
returns c =
    let l = c.loop-place in
    let z = c.args.catalogue.now in
    let end = c.loop-place-test.false in
    are_dependencies z l.relvars.items (subst (λ (ts : List Test). All (TellsTest z l.relvars.items) ts) (take_all l.place c.tests-tests.result.now (omega (arith, end)) ∙ c.tests-tests.ensures.tests) l.invariant)
