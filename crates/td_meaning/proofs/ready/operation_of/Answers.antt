use Rattle.std.proofs.Common.{IfSome, refl, ap, ◌∙◌, sym, subst, rules}
use Rattle.td_meaning.specs.declared.ready.ReadyTerm.TheVariants as ready
use Rattle.td_meaning.specs.ForProofs.Checks.{IsSide, side_value}
use Rattle.td_meaning.specs.ForProofs.ReadyTerms.{ready_value}
use Rattle.td_meaning.specs.Mean.{within}
use Rattle.td_meaning.specs.Seen.{mean_in, names_bound}
use Rattle.td_meaning.proofs.ReadyTerms.{operates}
use Rattle.td_meaning.proofs.ready.operation_of.Goals as goal

pub returns-in-Some-clause-means : goal.returns-in-Some-clause-means
unfolding ready_value
returns-in-Some-clause-means g c =
    let h = c.args.heading.now in
    let m = mean_in c.args.evaluator.now.env.now in
    let names = names_bound c.args.scope.now in
    let sides = subst (λ o. IfSome o (λ p. IsSide m names h c.get.result.now p.0 × IsSide m names h c.get-in-Binary.result.now p.1)) c.in-Some.is c.in_ok-first-in-Binary.ensures in
    operates c.args.evaluator.now.env.now names h c.args.tree.now c.in-Binary.a c.in-Binary.b c.in-Binary.operator (ready.Operation c.in-Binary.operator c.in-Some.first c.in-Some.second) (λ u. side_value u c.in-Some.first) (λ u. side_value u c.in-Some.second)
    c.in-Binary.is (c.takes_both.ensures c.if-takes_both.true) (λ u. refl)
    (λ u f. ap (λ x. m x (within u names)) (sym c.get.ensures) ∙ sides.0 u f) (λ u f. ap (λ x. m x (within u names)) (sym c.get-in-Binary.ensures) ∙ sides.1 u f)

pub returns-in-None-clause-means : goal.returns-in-None-clause-means
unfolding ready_value
returns-in-None-clause-means g c = search rules

pub returns-in_default-clause-means : goal.returns-in_default-clause-means
unfolding ready_value
returns-in_default-clause-means g c = search rules
