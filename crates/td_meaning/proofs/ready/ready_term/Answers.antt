use Rattle.std.proofs.Common.{IfSome, sym, subst}
use Rattle.td_meaning.specs.ForProofs.Checks.{IsSide}
use Rattle.td_meaning.specs.ForProofs.ReadyTerms.{ready_value}
use Rattle.td_meaning.specs.Seen.{mean_in, names_bound}
use Rattle.td_meaning.proofs.ready.ready_term.Goals as goal

pub returns-in-Some-clause-means : goal.returns-in-Some-clause-means
unfolding ready_value
returns-in-Some-clause-means g c =
    let is = subst (λ o. IfSome o (IsSide (mean_in c.args.evaluator.now.env.now) (names_bound c.args.scope.now) c.args.heading.now c.args.tree.now)) c.in-Some.is c.in_ok-side.ensures in
    λ u f. sym (is u f)
