use Rattle.std.proofs.Common.{◌≡◌, ℕ, List, IfOk, map, ap, subst, ◌∙◌}
use Rattle.td_comparison.specs.declared.digest.SiteDigest.{SiteDigest}
use Rattle.td_comparison.specs.Digests.{rises, site_digest}
use Rattle.td_comparison.specs.ForProofs.{common_place, place_sites}
use Rattle.td_comparison.proofs.Places.{common_sites, digests_at_places}
use Rattle.td_comparison.proofs.differing.common_digests.Goals as goal

pub hash_places-requires-clause-rises : goal.hash_places-requires-clause-rises
hash_places-requires-clause-rises c =
    ap (λ (l : List (ℕ × ℕ)). rises 0 (place_sites l)) (c.deref.ensures.value ∙ c.in_ok-places.ensures) ∙ ap (rises 0) (common_sites c.args.vector.now c.args.digests.now) ∙ c.requires.rises

pub returns-clause-digests : goal.returns-clause-digests
returns-clause-digests c =
    let same : map (site_digest c.args.held.now.entries) c.deref.result.now ≡ map (λ d. site_digest c.args.held.now.entries (common_place c.args.vector.now d)) c.args.digests.now =
    ap (map (site_digest c.args.held.now.entries)) (c.deref.ensures.value ∙ c.in_ok-places.ensures) ∙ digests_at_places c.args.held.now.entries c.args.vector.now c.args.digests.now in
    subst (λ (l : List SiteDigest). IfOk c.hash_places.result (λ v. v.digests.items ≡ l)) same c.hash_places.ensures.digests
