-- Version vectors (of the tentative writes of Terry et al. 1995, Bayou): up to which sequence number a set has each
-- site's entries without a gap, and what another set has beyond that.
use Rattle.std.specs.Prelude.{◌≡◌, ◌≢◌, ℕ, ◌≤◌, Bool, true, ◌&&◌, ◌==◌, nat_lt, nat_le, List, Some, unwrap_or}
use Rattle.std.specs.Coded.{Coded, coded_ℕ}
use Rattle.std.specs.FinMap as map
use Rattle.std.specs.List.{filter, list_all, list_any}
use Rattle.std.specs.Ordering.{nat_cmp}
use Rattle.td_stamps.specs.declared.entry.Entry.{Entry}

-- a finite map from sites to sequence numbers
abbrev pub VersionVector : Type 0
VersionVector = map.FinMap nat_cmp ℕ

-- by which a proof tells such maps apart
abbrev pub vector_code : Coded VersionVector
vector_code = map.code coded_ℕ coded_ℕ

-- an entry of the site has this sequence number
abbrev pub has_number : List Entry → ℕ → ℕ → Bool
has_number xs site n = list_any (λ e. (e.site == site) && (e.seq == n)) xs

-- the site's sequence numbers 1 to n are all held
abbrev pub HasAll : List Entry → ℕ → ℕ → Type 0
HasAll xs site n = (k : ℕ) → 1 ≤ k → k ≤ n → has_number xs site k ≡ true

-- n is the greatest number up to which all are held
pub record IsGreatest (xs : List Entry) (site n : ℕ) : Type 0 where
  pub all : HasAll xs site n
  pub greatest : (m : ℕ) → HasAll xs site m → m ≤ n

-- the number of a site, 0 where it is left out
abbrev pub number_of : VersionVector → ℕ → ℕ
number_of v site = unwrap_or (map.get v site) 0

-- the vector of a set: each site's greatest number, where that isn't 0
pub record IsVector (xs : List Entry) (v : VersionVector) : Type 0 where
  pub numbers : (site : ℕ) → IsGreatest xs site (number_of v site)
  pub positive : (site : ℕ) → map.get v site ≢ Some 0

-- the set has all that the vector counts
abbrev pub HasCounted : List Entry → VersionVector → Type 0
HasCounted xs v = (site : ℕ) → HasAll xs site (number_of v site)

-- the vector doesn't count this entry
abbrev pub lacks : VersionVector → Entry → Bool
lacks v e = nat_lt (number_of v e.site) e.seq

-- what a set has after a vector
abbrev pub after_vector : VersionVector → List Entry → List Entry
after_vector v xs = filter (lacks v) xs

-- a listed vector's sites and numbers begin at 1
abbrev pub from_one : List (ℕ × ℕ) → Bool
from_one es = list_all (λ e. nat_le 1 e.0 && nat_le 1 e.1) es

-- and its sites are numbers of 16 bits
abbrev pub sites_fit : List (ℕ × ℕ) → Bool
sites_fit es = list_all (λ e. nat_lt e.0 65536) es
