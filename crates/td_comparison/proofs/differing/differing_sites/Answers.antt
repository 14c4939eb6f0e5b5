use Rattle.std.proofs.Common.{List, true, ap, ◌∙◌}
use Rattle.td_comparison.specs.declared.digest.SiteDigest.{SiteDigest}
use Rattle.td_comparison.specs.ForProofs.{sites_unequal}
use Rattle.td_comparison.proofs.Unequal.{by_answer}
use Rattle.td_comparison.proofs.differing.differing_sites.Goals as goal

pub returns-clause-sites : goal.returns-clause-sites
returns-clause-sites c =
    let answer = c.args.answer.now in
    let own = c.deref.ensures.value ∙ c.in_ok-own.ensures.digests in
    c.in_ok-sites.ensures ∙ ap (λ (l : List SiteDigest). sites_unequal true l answer) own ∙ by_answer c.args.held.now.entries c.args.vector.now answer
