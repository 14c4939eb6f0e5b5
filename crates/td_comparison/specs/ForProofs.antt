-- Words that only proofs and private functions use.
use Rattle.std.specs.Prelude.{ℕ, Bool, false, not, ◌&&◌, ◌||◌, ◌==◌, List, [], ◌∷◌, if◌then◌else◌, map}
use Rattle.std.specs.BTreeMap as by_site
use Rattle.std.specs.List.{filter}
use Rattle.std.specs.Option.{option_map_or}
use Rattle.std.specs.Ordering.{nat_cmp}
use Rattle.std.specs.Str.{bytes_eq}
use Rattle.td_stamps.specs.Vectors.{VersionVector, number_of}
use Rattle.td_comparison.specs.Digests.{common}
use Rattle.td_comparison.specs.declared.digest.SiteDigest.{SiteDigest}
use Rattle.td_comparison.specs.declared.digest.SiteFeed.{SiteFeed}
use Rattle.td_comparison.specs.declared.prefixes.SitePrefixes.{SitePrefixes}

abbrev pub feed_place : SiteFeed → ℕ × ℕ
feed_place f = (f.site, f.number)

abbrev pub feed_places : List SiteFeed → List (ℕ × ℕ)
feed_places fs = map feed_place fs

-- what is kept of the site goes up to this number
abbrev pub is_hashed : SitePrefixes → ℕ × ℕ → Bool
is_hashed known p = option_map_or (λ k. k.number == p.1) (by_site.get nat_cmp known.by_site p.0) false

-- the places whose entries are not what is kept
abbrev pub missing : SitePrefixes → List (ℕ × ℕ) → List (ℕ × ℕ)
missing known ps = filter (λ p. not (is_hashed known p)) ps

abbrev pub place_sites : List (ℕ × ℕ) → List ℕ
place_sites ps = map (λ p. p.0) ps

-- the number up to which both have the site's entries
abbrev pub common_place : VersionVector → SiteDigest → ℕ × ℕ
common_place v d = (d.site, common v d)

-- a digest with the number up to which the site's entries are held
abbrev pub with_number : VersionVector → SiteDigest → SiteDigest
with_number v d = record { site = d.site; number = number_of v d.site; digest = d.digest }

-- the two can be compared, and are not the same
abbrev pub is_unequal : Bool → SiteDigest → SiteDigest → Bool
is_unequal answers x y = (answers || (x.number == y.number)) && not (bytes_eq x.digest y.digest)

-- the sites of the second list whose digests are not those of the first
unfoldable pub sites_unequal : Bool → List SiteDigest → List SiteDigest → List ℕ
sites_unequal answers [] ys = []
sites_unequal answers (x ∷ xs) [] = []
sites_unequal answers (x ∷ xs) (y ∷ ys) = if is_unequal answers x y then y.site ∷ sites_unequal answers xs ys else sites_unequal answers xs ys
