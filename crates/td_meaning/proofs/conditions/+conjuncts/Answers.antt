use Rattle.std.proofs.Common.{ap, subst, arith}
use Rattle.std.proofs.lemmas.Result.{on_ok_weaker}
use Rattle.td_meaning.specs.ForProofs.Checks.{AddsChecks, deepest_check}
use Rattle.td_meaning.specs.Seen.{mean_in, names_bound}
use Rattle.td_meaning.proofs.Checks.{adds_both, adds_one, deeper}
use Rattle.td_meaning.proofs.conditions.+conjuncts.Goals as goal

pub returns-in_ok-add_checks-in-Binary-clause-means : goal.returns-in_ok-add_checks-in-Binary-clause-means
returns-in_ok-add_checks-in-Binary-clause-means g t c =
    let h = c.args.heading.now in
    let env = c.args.evaluator.now.env.now in
    let names = names_bound c.args.scope.now in
    let old = c.args.checks.now.items in
    let mid = c.add_checks.new.checks.items in
    let new = c.add_checks-in-Binary.new.checks.items in
    let first = subst (λ a. AddsChecks (mean_in env) names h a old mid) c.get.ensures c.in_ok-add_checks-in-Binary.ensures.means in
    on_ok_weaker c.add_checks-in-Binary.result
    (λ second. adds_both env names h c.args.tree.now c.in-Binary.a c.in-Binary.b c.in-Binary.operator old mid new c.in-Binary.is (c.is_and.ensures c.if-is_and.true) first
    (subst (λ b. AddsChecks (mean_in env) names h b mid new) c.get-in-Binary.ensures second))
    c.add_checks-in-Binary.ensures.means

pub returns-in_ok-check_of-in_default-clause-means : goal.returns-in_ok-check_of-in_default-clause-means
returns-in_ok-check_of-in_default-clause-means g t c =
    on_ok_weaker c.add_check.result
    (λ same. adds_one c.args.evaluator.now.env.now (names_bound c.args.scope.now) c.args.heading.now c.args.tree.now c.in_ok-check_of-in_default.field-0 c.args.checks.now.items c.add_check.new.checks.items
    c.in_ok-check_of-in_default.ensures.means same)
    c.add_check.ensures

pub returns-in_ok-check_of-in_default-clause-levels : goal.returns-in_ok-check_of-in_default-clause-levels
returns-in_ok-check_of-in_default-clause-levels g t c =
    on_ok_weaker c.add_check.result
    (λ same. omega (arith, ap deepest_check same, deeper c.args.checks.now.items c.in_ok-check_of-in_default.field-0, c.in_ok-check_of-in_default.ensures.levels))
    c.add_check.ensures
