use Rattle.std.proofs.Common.{ap, ◌∙◌}
use Rattle.std.proofs.lemmas.Result.{IfOk-weaker}
use Rattle.td_algebra.specs.KeyIndexes.{KeyIndexData}
use Rattle.td_accesses.proofs.Parting.{is_elsewhere}
use Rattle.td_accesses.proofs.links.refers_elsewhere.Goals as goal

pub returns-in-Some : goal.returns-in-Some
returns-in-Some c =
    let xs = c.args.links.now in
    let i = c.in-Some.at in
    let x = c.index-links-at.result in
    let is = c.index-links-at.is in
    IfOk-weaker c.lack_values.result _ _
    (λ b told yes_. is_elsewhere c.args.relvar xs c.args.relation.now c.args.reference.now i x c.in-Some.ensures.0 is
    (ap (λ (y : KeyIndexData). y.key) is ∙ c.in-Some.ensures.1 x ∙ c.deref.ensures.value) c.tuples.result.now c.tuples.ensures.all (told yes_))
    c.lack_values.ensures
