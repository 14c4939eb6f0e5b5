use Rattle.std.proofs.Common.{◌≡◌, ◌≤◌, ℕ, List, length, map, sym, ap, ◌∙◌, arith}
use Rattle.std.proofs.lemmas.List.{length-map}
use Rattle.std.proofs.lemmas.Result.{IfOk-weaker}
use Rattle.td_stamps.specs.Vectors.{from_one}
use Rattle.td_comparison.specs.Digests.{rises, site_digest}
use Rattle.td_comparison.specs.ForProofs.{place_sites}
use Rattle.td_comparison.proofs.Places.{entries_rise, few_places}
use Rattle.td_comparison.proofs.differing.question.Goals as goal

pub hash_places-requires-clause-rises : goal.hash_places-requires-clause-rises
hash_places-requires-clause-rises c =
    let places = c.in_ok-places.ensures.entries in
    ap (λ (l : List (ℕ × ℕ)). rises 0 (place_sites l)) (c.deref.ensures.value ∙ places)
    ∙ entries_rise c.args.vector.now (ap from_one (sym places) ∙ c.in_ok-places.ensures.from_one)

pub returns-clause-few : goal.returns-clause-few
returns-clause-few c =
    let xs = c.args.held.now.entries in
    let ps = c.in_ok-places.places.items in
    let places = c.in_ok-places.ensures.entries in
    let up = ap (λ (l : List (ℕ × ℕ)). rises 0 (place_sites l)) places ∙ entries_rise c.args.vector.now (ap from_one (sym places) ∙ c.in_ok-places.ensures.from_one) in
    let few = few_places ps up c.in_ok-places.ensures.fit in
    IfOk-weaker c.hash_places.result (λ v. v.digests.items ≡ map (site_digest xs) c.deref.result.now) (λ v. length v.digests.items ≤ 65535)
    (λ v is. let long : length v.digests.items ≡ length ps = ap length (is ∙ ap (map (site_digest xs)) c.deref.ensures.value) ∙ length-map ps (site_digest xs) in omega (arith, long, few)) c.hash_places.ensures.digests
