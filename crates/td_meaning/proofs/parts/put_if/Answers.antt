use Rattle.std.proofs.Common.{◌≡◌, IfSome, subst}
use Rattle.td_meaning.specs.Mean.{Names}
use Rattle.td_meaning.specs.Parts.{known_value}
use Rattle.td_meaning.specs.Seen.{mean_in}
use Rattle.td_meaning.proofs.parts.put_if.Goals as goal

pub returns-in-Some : goal.returns-in-Some
returns-in-Some c = λ env old says.
    c.put.ensures env old (subst (λ o. IfSome o (λ v. (names : Names) → mean_in env c.args.tree.now names ≡ known_value v)) c.in-Some.is says)
