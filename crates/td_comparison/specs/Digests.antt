-- Digests of what sites issued, by which two of them find whose statements differ before they meet: SHA-256 (FIPS
-- 180-4) over the frames of a site's first statements.
use Rattle.std.specs.Prelude.{ℕ, Bool, true, not, ◌&&◌, ◌==◌, nat_le, nat_lt, min, List, [], ◌∷◌, take, map}
use Rattle.std.specs.FinMap as by_site
use Rattle.std.specs.List.{filter}
use Rattle.std.specs.Str.{bytes_eq}
use Rattle.sha2.specs.Sha256.{sha256}
use Rattle.td_stamps.specs.Vectors.{VersionVector, number_of}
use Rattle.td_stamps.specs.declared.entry.Entry.{Entry}
use Rattle.td_frames.specs.Spelling.{entry_frames}
use Rattle.td_frames.specs.declared.version.Version.TheVariants.{Second}
use Rattle.td_comparison.specs.declared.digest.SiteDigest.{SiteDigest}

-- the entries of a site up to a number, in stamp order: where none clash, that is the order of their numbers
abbrev pub first_entries : ℕ → ℕ → List Entry → List Entry
first_entries site n xs = filter (λ e. (e.site == site) && nat_le e.seq n) xs

-- the first 16 bytes of the SHA-256 of their frames
abbrev pub digest_of : ℕ → ℕ → List Entry → List ℕ
digest_of site n xs = take 16 (sha256 (entry_frames Second (first_entries site n xs)))

-- a site, a number, and the digest of the site's entries up to this number
abbrev pub site_digest : List Entry → ℕ × ℕ → SiteDigest
site_digest xs p = record { site = p.0; number = p.1; digest = digest_of p.0 p.1 xs }

-- what a site asks another one with: each site of its version vector, with its number
abbrev pub question_of : List Entry → VersionVector → List SiteDigest
question_of xs v = map (site_digest xs) (by_site.entries v)

-- the number up to which both have the site's entries: the lesser one
abbrev pub common : VersionVector → SiteDigest → ℕ
common v d = min d.number (number_of v d.site)

-- what is answered of a site that another one names: the number up to which it is held here, 0 for a site of which
-- nothing is, and the digest up to the lesser number
abbrev pub answer_to : List Entry → VersionVector → SiteDigest → SiteDigest
answer_to xs v d = record { site = d.site; number = number_of v d.site; digest = digest_of d.site (common v d) xs }

abbrev pub answers_to : List Entry → VersionVector → List SiteDigest → List SiteDigest
answers_to xs v ds = map (answer_to xs v) ds

-- the digest is not that of the entries that are held here up to the lesser number
abbrev pub differs : List Entry → VersionVector → SiteDigest → Bool
differs xs v d = not (bytes_eq (digest_of d.site (common v d) xs) d.digest)

-- the digest can be compared with entries that are held here: as many are
abbrev pub is_comparable : VersionVector → SiteDigest → Bool
is_comparable v d = nat_le d.number (number_of v d.site)

-- the sites that differ, by an answer
abbrev pub differing : List Entry → VersionVector → List SiteDigest → List ℕ
differing xs v ds = map (λ d. d.site) (filter (differs xs v) ds)

-- the sites that are known to differ by a question: of which as many entries are held here as there
abbrev pub known_to_differ : List Entry → VersionVector → List SiteDigest → List ℕ
known_to_differ xs v ds = map (λ d. d.site) (filter (λ d. is_comparable v d && differs xs v d) ds)

-- each number is greater than the one before it, and the first than this one
abbrev pub rises : ℕ → List ℕ → Bool
rises last [] = true
rises last (x ∷ xs) = nat_lt last x && rises x xs

abbrev pub digest_sites : List SiteDigest → List ℕ
digest_sites ds = map (λ d. d.site) ds
