use Rattle.std.proofs.Common.{◌+◌, List, take, sym, subst, ◌∙◌, arith}
use Rattle.std.proofs.lemmas.List.{take_all}
use Rattle.td_headings.specs.declared.defined.Test.{Test}
use Rattle.td_assign.specs.ForProofs.Names.{Gathers, HasMore, ReadsWith}
use Rattle.td_assign.proofs.Naming.{gathers_next}
use Rattle.td_assign.proofs.names.tests_need.Goals as goal

pub loop-place-preserved : goal.loop-place-preserved
loop-place-preserved c =
    let k = c.args.catalogue.now in
    let targets = c.args.targets.now in
    let ts = c.tests-tests.result.now in
    let l = c.loop-place in
    let t = c.index-tests-place.result in
    let within = c.loop-place-test.true in
    let added = subst (λ (u : Test). HasMore (ReadsWith k targets u) l.places.items c.add_test_needs.new.places.items) c.index-tests-place.is c.in_ok-add_test_needs.ensures in
    subst (Gathers (ReadsWith k targets) (take (l.place + 1) ts)) (sym added.1)
    (gathers_next (ReadsWith k targets) ts l.place t l.places.items added.0 (omega (arith, within)) l.invariant added.2)

pub returns-clause-places : goal.returns-clause-places
returns-clause-places c =
    let k = c.args.catalogue.now in
    let l = c.loop-place in
    let end = c.loop-place-test.false in
    subst (λ (ts : List Test). Gathers (ReadsWith k c.args.targets.now) ts l.places.items) (take_all l.place c.tests-tests.result.now (omega (arith, end)) ∙ c.tests-tests.ensures.tests) l.invariant
