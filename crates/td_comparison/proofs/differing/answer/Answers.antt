use Rattle.std.proofs.Common.{List, false, map, ap, ◌∙◌}
use Rattle.td_comparison.specs.declared.digest.SiteDigest.{SiteDigest}
use Rattle.td_comparison.specs.ForProofs.{sites_unequal, with_number}
use Rattle.td_comparison.proofs.Places.{answers_numbered}
use Rattle.td_comparison.proofs.Unequal.{by_question}
use Rattle.td_comparison.proofs.differing.answer.Goals as goal

pub returns-clause-digests : goal.returns-clause-digests
returns-clause-digests c =
    let v = c.args.vector.now in
    c.in_ok-digests.ensures ∙ ap (map (with_number v)) (c.deref-2.ensures.value ∙ c.in_ok-own.ensures.digests) ∙ answers_numbered c.args.held.now.entries v c.args.digests.now

pub returns-clause-differing : goal.returns-clause-differing
returns-clause-differing c =
    let ds = c.args.digests.now in
    c.in_ok-differing.ensures ∙ ap (λ (l : List SiteDigest). sites_unequal false l ds) (c.deref.ensures.value ∙ c.in_ok-own.ensures.digests) ∙ by_question c.args.held.now.entries c.args.vector.now ds
