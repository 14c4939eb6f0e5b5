use Rattle.std.proofs.Common.{◌≡◌, ◌∙◌, sym}
use Rattle.td_values.specs.Data.{Attrs}
use Rattle.td_operators.specs.Values.{known}
use Rattle.td_tuples.specs.Parts.{Fits}
use Rattle.td_meaning.specs.ForProofs.Checks.{IsSide, side_value}
use Rattle.td_meaning.specs.Parts.{known_value}
use Rattle.td_meaning.specs.Mean.{within}
use Rattle.td_meaning.specs.Seen.{mean_in, names_bound}
use Rattle.td_meaning.proofs.Checks.{local_is, side_weaker}
use Rattle.td_meaning.proofs.conditions.side_of.Goals as goal

pub returns-in-Local : goal.returns-in-Local
returns-in-Local g c =
    let h = c.args.heading.now in
    let n = c.in-Local.name in
    let env = c.args.evaluator.now.env.now in
    let names = names_bound c.args.scope.now in
    side_weaker (λ s. (u : Attrs) → Fits h u → known (within u names n) ≡ side_value u s) (IsSide (mean_in env) names h c.args.tree.now) c.side_local.result
    (λ s is u f. local_is env names c.args.tree.now n u c.in-Local.is ∙ is u f) c.side_local.ensures

pub returns-in-Some : goal.returns-in-Some
returns-in-Some g c =
    let h = c.args.heading.now in
    let env = c.args.evaluator.now.env.now in
    let names = names_bound c.args.scope.now in
    side_weaker (λ s. (u : Attrs) → side_value u s ≡ known_value c.in-Some.value.now) (IsSide (mean_in env) names h c.args.tree.now) c.side_known.result
    (λ s is u f. c.in-Some.ensures (within u names) ∙ sym (is u)) c.side_known.ensures
