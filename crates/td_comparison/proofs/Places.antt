-- The places of a version vector and of digests, whose sites rise.
use Rattle.std.proofs.Common.{◌≡◌, ℕ, true, ◌&&◌, ◌+◌, ◌<◌, ◌≤◌, ltb, leb, List, [], ◌∷◌, length, T, map, refl, ap, arith}
use Rattle.std.specs.FinMap as by_site
use Rattle.std.specs.FinMap.Entries.{is_sorted}
use Rattle.std.specs.Ordering.{nat_cmp}
use Rattle.std.proofs.lemmas.Bool.{and_from, lt-ltb, ltb-true}
use Rattle.td_stamps.specs.Vectors.{VersionVector, from_one, sites_fit}
use Rattle.td_stamps.proofs.SetLemmas.{first_holds, rest_holds}
use Rattle.td_stamps.specs.declared.entry.Entry.{Entry}
use Rattle.td_frames.proofs.GreetedAgain.{Rising, rising}
use Rattle.td_comparison.specs.Digests.{answer_to, answers_to, rises, site_digest, digest_sites}
use Rattle.td_comparison.specs.ForProofs.{common_place, place_sites, with_number}
use Rattle.td_comparison.specs.declared.digest.SiteDigest.{SiteDigest}

rises_so : (last : ℕ) (ps : List (ℕ × ℕ)) → Rising last ps → rises last (place_sites ps) ≡ true
rises_so last [] up = refl
rises_so last (p ∷ ps) up = and_from (ltb last p.0) (rises p.0 (place_sites ps)) (lt-ltb last p.0 up.0) (rises_so p.0 ps up.1)

-- the sites of a vector rise from 1 on
sorted_rise : (ps : List (ℕ × ℕ)) → T (is_sorted nat_cmp ps) → from_one ps ≡ true → rises 0 (place_sites ps) ≡ true
sorted_rise [] sorted all = refl
sorted_rise (p ∷ ps) sorted all =
    let here : (leb 1 p.0 && leb 1 p.1) ≡ true = first_holds _ _ all in
    let some : leb 1 p.0 ≡ true = first_holds (leb 1 p.0) (leb 1 p.1) here in
    and_from (ltb 0 p.0) (rises p.0 (place_sites ps)) some (rises_so p.0 ps (rising p ps sorted))

pub entries_rise : (v : VersionVector) → from_one (by_site.entries v) ≡ true → rises 0 (place_sites (by_site.entries v)) ≡ true
entries_rise v all = sorted_rise (by_site.entries v) (by_site.entries_sorted v) all

-- sites of 16 bits that rise are few
few_after : (last : ℕ) (ps : List (ℕ × ℕ)) → last < 65536 → rises last (place_sites ps) ≡ true → sites_fit ps ≡ true → last + length ps < 65536
few_after last [] low up fit = omega (arith, low)
few_after last (p ∷ ps) low up fit =
    let first : last < p.0 = ltb-true last p.0 (first_holds (ltb last p.0) (rises p.0 (place_sites ps)) up) in
    let here : p.0 < 65536 = ltb-true p.0 65536 (first_holds (ltb p.0 65536) (sites_fit ps) fit) in
    let rest : p.0 + length ps < 65536 = few_after p.0 ps here (rest_holds (ltb last p.0) (rises p.0 (place_sites ps)) up) (rest_holds (ltb p.0 65536) (sites_fit ps) fit) in
    omega (arith, rest, first)

pub few_places : (ps : List (ℕ × ℕ)) → rises 0 (place_sites ps) ≡ true → sites_fit ps ≡ true → length ps ≤ 65535
few_places ps up fit = let few = few_after 0 ps (omega arith) up fit in omega (arith, few)

-- the places that two vectors have in common are of the same sites
pub common_sites : (v : VersionVector) (ds : List SiteDigest) → place_sites (map (common_place v) ds) ≡ digest_sites ds
common_sites v [] = refl
common_sites v (d ∷ ds) = ap (λ (l : List ℕ). d.site ∷ l) (common_sites v ds)

-- their digests
pub digests_at_places : (xs : List Entry) (v : VersionVector) (ds : List SiteDigest) → map (site_digest xs) (map (common_place v) ds) ≡ map (λ d. site_digest xs (common_place v d)) ds
digests_at_places xs v [] = refl
digests_at_places xs v (d ∷ ds) = ap (λ (l : List SiteDigest). site_digest xs (common_place v d) ∷ l) (digests_at_places xs v ds)

-- and with the numbers up to which entries are held, they are the answers
pub answers_numbered : (xs : List Entry) (v : VersionVector) (ds : List SiteDigest) → map (with_number v) (map (λ d. site_digest xs (common_place v d)) ds) ≡ answers_to xs v ds
answers_numbered xs v [] = refl
answers_numbered xs v (d ∷ ds) = ap (λ (l : List SiteDigest). answer_to xs v d ∷ l) (answers_numbered xs v ds)
