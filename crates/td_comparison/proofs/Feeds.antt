-- Digests that take entries, each those of its own site.
use Rattle.std.proofs.Common.{◌≡◌, ℕ, zero, suc, ◌<◌, ◌≤◌, Bool, true, ◌&&◌, cond, ltb, leb, eqb, List, [], ◌∷◌, ◌++◌, length, get_or, set, sym, ap, ◌∙◌, subst, append-nil, arith, Ok, Err, inl, inr}
use Rattle.std.specs.List.Sorted.{IsBinarySearchResult, IsNonDecreasingBy}
use Rattle.std.specs.Ordering.{nat_cmp, ordering_index}
use Rattle.std.proofs.lemmas.Cmp.{ranked}
use Rattle.std.proofs.lemmas.Bool.Decides.{nat_tests}
use Rattle.std.proofs.lemmas.Bool.{cases_lt, ne_eqb, ltb-true}
use Rattle.std.proofs.lemmas.List.Elements.{filter-append}
use Rattle.sha2.specs.Hashers.{Holds256}
use Rattle.td_stamps.specs.declared.entry.Entry.{Entry}
use Rattle.td_stamps.proofs.SetLemmas.{first_holds, rest_holds}
use Rattle.td_frames.specs.Spelling.{entry_frames}
use Rattle.td_frames.specs.declared.version.Version.TheVariants.{Second}
use Rattle.td_comparison.specs.Digests.{first_entries, rises}
use Rattle.td_comparison.specs.ForProofs.{feed_places, place_sites}
use Rattle.td_comparison.specs.Hashed.{AreFed, IsFed, entries_between}
use Rattle.td_comparison.specs.declared.digest.SiteFeed.{SiteFeed}

-- the sites of the feeds rise from here on
abbrev pub Rise : ℕ → List SiteFeed → Type 0
Rise last fs = rises last (place_sites (feed_places fs)) ≡ true

first_after : (last : ℕ) (f : SiteFeed) (fs : List SiteFeed) → Rise last (f ∷ fs) → last < f.site
first_after last f fs up = ltb-true last f.site (first_holds (ltb last f.site) (rises f.site (place_sites (feed_places fs))) up)

rest_rises : (last : ℕ) (f : SiteFeed) (fs : List SiteFeed) → Rise last (f ∷ fs) → Rise f.site fs
rest_rises last f fs up = rest_holds (ltb last f.site) (rises f.site (place_sites (feed_places fs))) up

-- an entry of another site does not count
between-other : (site from n : ℕ) (came : List Entry) (e : Entry) → (e.site ≡ site → ⊥) → entries_between site from n (came ++ e ∷ []) ≡ entries_between site from n came
between-other site from n came e other =
    filter-append (λ (x : Entry). eqb x.site site && (ltb from x.seq && leb x.seq n)) came (e ∷ [])
    ∙ ap (λ (b : Bool). entries_between site from n came ++ cond (b && (ltb from e.seq && leb e.seq n)) (e ∷ []) []) (ne_eqb e.site site other)
    ∙ append-nil (entries_between site from n came)

-- what has been taken stays so where the entries that count are the same
as_before : (f : SiteFeed) (xs came more : List Entry) → entries_between f.site f.from f.number more ≡ entries_between f.site f.from f.number came → IsFed xs came f → IsFed xs more f
as_before f xs came more same fed = record {
  within = fed.within;
  all = fed.all;
  taken = subst (λ (l : List Entry). Holds256 f.hasher (entry_frames Second (first_entries f.site f.from xs ++ l))) (sym same) fed.taken;
}

other_site : (f : SiteFeed) (xs came : List Entry) (e : Entry) → (e.site ≡ f.site → ⊥) → IsFed xs came f → IsFed xs (came ++ e ∷ []) f
other_site f xs came e other fed = as_before f xs came (came ++ e ∷ []) (between-other f.site f.from f.number came e other) fed

-- all sites come after that of the entry
all_later : (last : ℕ) (fs : List SiteFeed) (xs came : List Entry) (e : Entry) → e.site ≤ last → Rise last fs → AreFed xs came fs → AreFed xs (came ++ e ∷ []) fs
all_later last [] xs came e le up fed = tt
all_later last (f ∷ fs) xs came e le up fed =
    let lt : last < f.site = first_after last f fs up in
    (other_site f xs came e (λ (same : e.site ≡ f.site). absurd (omega arith)) fed.0, all_later f.site fs xs came e (omega arith) (rest_rises last f fs up) fed.1)

-- each site comes after the last one
after : (last : ℕ) (fs : List SiteFeed) (i : ℕ) (d : SiteFeed) → i < length fs → Rise last fs → last < (get_or fs i d).site
after last [] i d lt up = absurd (omega arith)
after last (f ∷ fs) zero d lt up = first_after last f fs up
after last (f ∷ fs) (suc i) d lt up =
    let first : last < f.site = first_after last f fs up in
    let later : f.site < (get_or fs i d).site = after f.site fs i d (omega arith) (rest_rises last f fs up) in
    omega (arith, first, later)

-- the feed of the entry's site takes it
pub one_fed : (last : ℕ) (fs : List SiteFeed) (i : ℕ) (d new : SiteFeed) (xs came : List Entry) (e : Entry) → i < length fs → Rise last fs → (get_or fs i d).site ≡ e.site
    → (IsFed xs came (get_or fs i d) → IsFed xs (came ++ e ∷ []) new) → AreFed xs came fs → AreFed xs (came ++ e ∷ []) (set fs i new)
one_fed last [] i d new xs came e lt up same step fed = absurd (omega arith)
one_fed last (f ∷ fs) zero d new xs came e lt up same step fed = (step fed.0, all_later f.site fs xs came e (omega arith) (rest_rises last f fs up) fed.1)
one_fed last (f ∷ fs) (suc i) d new xs came e lt up same step fed =
    let later : f.site < (get_or fs i d).site = after f.site fs i d (omega arith) (rest_rises last f fs up) in
    (other_site f xs came e (λ (is : e.site ≡ f.site). absurd (omega (arith, later))) fed.0, one_fed f.site fs i d new xs came e (omega arith) (rest_rises last f fs up) same step fed.1)

-- no feed is of the entry's site
pub none_fed : (fs : List SiteFeed) (xs came : List Entry) (e : Entry) → ((k : ℕ) (d : SiteFeed) → k < length fs → (get_or fs k d).site ≡ e.site → ⊥) → AreFed xs came fs → AreFed xs (came ++ e ∷ []) fs
none_fed [] xs came e other fed = tt
none_fed (f ∷ fs) xs came e other fed =
    (other_site f xs came e (λ (is : e.site ≡ f.site). other 0 f (omega arith) (sym is)) fed.0, none_fed fs xs came e (λ k d lt is. other (suc k) d (omega arith) is) fed.1)

-- sites at two places
later_site : (last : ℕ) (fs : List SiteFeed) (i j : ℕ) (d : SiteFeed) → i < j → j < length fs → Rise last fs → (get_or fs i d).site < (get_or fs j d).site
later_site last [] i j d lt within up = absurd (omega arith)
later_site last (f ∷ fs) i zero d lt within up = absurd (omega arith)
later_site last (f ∷ fs) zero (suc j) d lt within up = after f.site fs j d (omega arith) (rest_rises last f fs up)
later_site last (f ∷ fs) (suc i) (suc j) d lt within up = later_site f.site fs i j d (omega arith) (omega arith) (rest_rises last f fs up)

comparisons_rise : (site : ℕ) (fs : List SiteFeed) → Rise 0 fs → IsNonDecreasingBy (λ f. ordering_index (nat_cmp f.site site)) fs
comparisons_rise site fs up i j d le within =
    let sites : (get_or fs i d).site ≤ (get_or fs j d).site = grind (arith, later_site 0 fs i j d, λ (same : i ≡ j). ap (λ k. (get_or fs k d).site) same) in
    grind (arith, nat_tests)

-- what a search among the sites finds
pub found_at : (site : ℕ) (fs : List SiteFeed) (i : ℕ) → IsBinarySearchResult (λ f. nat_cmp f.site site) fs (Ok i) → (d : SiteFeed) → (get_or fs i d).site ≡ site
found_at site fs i equal d = ranked _ site _ (sym (equal d))

pub not_found : (site : ℕ) (fs : List SiteFeed) (i : ℕ) → Rise 0 fs → IsBinarySearchResult (λ f. nat_cmp f.site site) fs (Err i) → (k : ℕ) (d : SiteFeed) → k < length fs → (get_or fs k d).site ≡ site → ⊥
not_found site fs i up parted k d within same =
    let both = parted (comparisons_rise site fs up) in
    elim (cases_lt k i) [
      | inl before ↦
          let less : (get_or fs k d).site < site = ranked _ site _ (sym (both.0 k d (omega arith) before)) in
          omega arith
      | inr past ↦
          let more : site < (get_or fs k d).site = ranked _ site _ (sym (both.1 k d past within)) in
          omega arith
    ]
