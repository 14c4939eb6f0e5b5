use Rattle.std.proofs.Common.{ap, ◌∙◌}
use Rattle.td_eval.specs.ForProofs.ByKey.{is_value}
use Rattle.td_eval.proofs.ByKey.{tests_same}
use Rattle.td_eval.proofs.by_key.has_value.Goals as goal

pub returns-in-Some : goal.returns-in-Some
returns-in-Some c =
    let d = c.args.given.now.1 in
    tests_same c.equal.result c.in-Some.value.now d c.equal.ensures.0 c.equal.ensures.1 ∙ ap (λ o. is_value o d) c.in-Some.ensures
