use Rattle.std.proofs.Common.{List, rules, subst, arith}
use Rattle.std.specs.List.{All}
use Rattle.std.proofs.lemmas.List.{take_all}
use Rattle.td_headings.specs.declared.defined.Test.{Test}
use Rattle.td_accesses.specs.ForProofs.Growing.{IsKeptFor}
use Rattle.td_accesses.proofs.Growing.{all_by, indexes_in_turn, indexes_themselves, kept_further}
use Rattle.td_accesses.proofs.by_keys.keep_by_keys.Goals as goal

pub loop-test-init : goal.loop-test-init
loop-test-init c = record { kept = indexes_themselves c.args.indexes.now.items; there = search rules }

pub loop-test-preserved : goal.loop-test-preserved
loop-test-preserved c =
    let xs = c.loop-test.indexes.items in
    let ys = c.keep_by_test.new.indexes.items in
    let grown = c.in_ok-keep_by_test.ensures.kept in
    record {
      kept = indexes_in_turn c.args.indexes.now.items xs ys c.loop-test.invariant.kept grown;
      there = kept_further c.args.relvar c.args.relation.now c.args.tests.now c.loop-test.test-index c.test-item.result xs ys c.loop-test-test.true c.test-item.is grown (c.in_ok-keep_by_test.ensures.there c.if-not-branch.false) c.loop-test.invariant.there;
    }

pub returns-then-not-branch-clause-kept : goal.returns-then-not-branch-clause-kept
returns-then-not-branch-clause-kept c =
    indexes_in_turn c.args.indexes.now.items c.loop-test.indexes.items c.keep_by_test.new.indexes.items c.loop-test.invariant.kept c.in_ok-keep_by_test.ensures.kept

pub returns-clause-there : goal.returns-clause-there
returns-clause-there c = λ _.
    let n = c.args.relvar in
    let s = c.args.relation.now in
    let xs = c.loop-test.indexes.items in
    let tests = c.args.tests.now in
    let end = c.loop-test-test.false in
    all_by tests n s xs (subst (λ (ts : List Test). All (IsKeptFor n s xs) ts) (take_all c.loop-test.test-index tests (omega (arith, end))) c.loop-test.invariant.there)
