-- What was hashed of a site's entries, and goes on where more came. Nothing of it is in a result: digests are those of
-- Digests.
use Rattle.std.specs.Prelude.{◌≡◌, ◌≤◌, ℕ, true, ◌&&◌, ◌==◌, nat_le, nat_lt, List, ◌++◌, Some}
use Rattle.std.specs.BTreeMap as by_site
use Rattle.std.specs.List.{AllByRecursion, filter, list_all}
use Rattle.std.specs.Ordering.{nat_cmp}
use Rattle.sha2.specs.Hashers.{Holds256}
use Rattle.td_stamps.specs.Entries.{in_range}
use Rattle.td_stamps.specs.Sets.{has, is_set}
use Rattle.td_stamps.specs.Vectors.{HasAll}
use Rattle.td_stamps.specs.declared.entry.Entry.{Entry}
use Rattle.td_frames.specs.Spelling.{entry_frames}
use Rattle.td_frames.specs.declared.version.Version.TheVariants.{Second}
use Rattle.td_comparison.specs.Digests.{first_entries}
use Rattle.td_comparison.specs.declared.digest.SiteFeed.{SiteFeed}
use Rattle.td_comparison.specs.declared.prefixes.SitePrefix.{SitePrefix}
use Rattle.td_comparison.specs.declared.prefixes.SitePrefixes.{SitePrefixes}

-- all numbers of the site up to this one are held, and the hasher has taken the frames of these entries
pub record IsPrefixOf (xs : List Entry) (site : ℕ) (p : SitePrefix) : Type 0 where
  pub all : HasAll xs site p.number
  pub taken : Holds256 p.hasher (entry_frames Second (first_entries site p.number xs))

-- what is kept of each site is true of these entries
abbrev pub ArePrefixesOf : List Entry → SitePrefixes → Type 0
ArePrefixesOf xs known = (site : ℕ) (p : SitePrefix) → by_site.get nat_cmp known.by_site site ≡ Some p → IsPrefixOf xs site p

-- the entries of a site after a number, up to another one
abbrev pub entries_between : ℕ → ℕ → ℕ → List Entry → List Entry
entries_between site from n xs = filter (λ e. (e.site == site) && (nat_lt from e.seq && nat_le e.seq n)) xs

-- of what is held the hasher had taken the site's entries up to a number, and has taken those after it that came so far
pub record IsFed (xs came : List Entry) (f : SiteFeed) : Type 0 where
  pub within : f.from ≤ f.number
  pub all : HasAll xs f.site f.last
  pub taken : Holds256 f.hasher (entry_frames Second (first_entries f.site f.from xs ++ entries_between f.site f.from f.number came))

abbrev pub AreFed : List Entry → List Entry → List SiteFeed → Type 0
AreFed xs came fs = AllByRecursion (IsFed xs came) fs

-- all that is held came
abbrev pub AreHashed : List Entry → List SiteFeed → Type 0
AreHashed xs fs = AreFed xs xs fs

-- what is kept stays true as a set grows
abbrev pub PrefixesStay : Type 0
PrefixesStay =
    (xs ys : List Entry) → is_set xs ≡ true → is_set ys ≡ true → list_all in_range ys ≡ true → ((e : Entry) → has xs e ≡ true → has ys e ≡ true)
    → (known : SitePrefixes) → ArePrefixesOf xs known → ArePrefixesOf ys known
