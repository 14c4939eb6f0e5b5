-- Vectors read site by site.
use Rattle.std.proofs.Common.{◌≡◌, ◌<◌, ◌≤◌, ℕ, zero, suc, ◌+◌, ◌-◌, true, List, [], ◌++◌, Option, is_some, Result, Ok, Err, ap, refl, sym, ◌∙◌, append_assoc, arith}
use mathlib.Core.Bool.{false≢true}
use Rattle.std.specs.Ordering.{nat_cmp}
use Rattle.std.specs.FinMap as by_site
use Rattle.td_stamps.specs.Vectors.{VersionVector}
use Rattle.td_frames.specs.declared.error.FrameError.{FrameError}
use Rattle.td_frames.specs.Reading.{Miss, ToldErr, number_at, site_at, sites_at, then_at}
use Rattle.td_frames.specs.ForProofs.{place_at}
use Rattle.td_frames.proofs.InTurn.{told_as, told_then}
use Rattle.td_frames.proofs.Places.{number_then, with_number}

abbrev no_sites : VersionVector
no_sites = by_site.empty

abbrev pub others : ℕ → ℕ × VersionVector → List ℕ → Result (VersionVector × List ℕ) Miss
others k p more = sites_at k p.0 p.1 more

numbered : (k s : ℕ) (v : VersionVector) (q : Result (ℕ × List ℕ) Miss) → then_at q (λ n more. sites_at k s (by_site.insert v s n) more) ≡ then_at (then_at q (with_number v s)) (others k)
numbered k s v (Ok x) = refl
numbered k s v (Err m) = refl

placed : (k : ℕ) (v : VersionVector) (r : Result (ℕ × List ℕ) Miss)
    → then_at r (λ s rest. then_at (number_at rest) (λ n more. sites_at k s (by_site.insert v s n) more)) ≡ then_at (then_at r (number_then v)) (others k)
placed k v (Ok x) = numbered k x.0 v (number_at x.1)
placed k v (Err m) = refl

one_more : (k last : ℕ) (v : VersionVector) (bytes : List ℕ) → sites_at (suc k) last v bytes ≡ then_at (place_at last v bytes) (others k)
unfolding sites_at
one_more k last v bytes = placed k v (site_at last bytes)

left_at : (count i last : ℕ) (v : VersionVector) (bytes : List ℕ) → i < count → sites_at (count - i) last v bytes ≡ then_at (place_at last v bytes) (others (count - (i + 1)))
left_at count i last v bytes lt =
    let k : count - i ≡ suc (count - (i + 1)) = omega arith in
    ap (λ n. sites_at n last v bytes) k ∙ one_more (count - (i + 1)) last v bytes

-- so many sites are left after these bytes
abbrev pub Leads : ℕ → ℕ → ℕ → VersionVector → List ℕ → Type 0
Leads count i last v done = (more : List ℕ) → sites_at count 0 by_site.empty (done ++ more) ≡ sites_at (count - i) last v more

pub leads_on : (count i last : ℕ) (v : VersionVector) (done b : List ℕ) (s : ℕ) (after : VersionVector) → i < count → Leads count i last v done
    → ((more : List ℕ) → place_at last v (b ++ more) ≡ Ok ((s, after), more)) → Leads count (i + 1) s after (done ++ b)
leads_on count i last v done b s after lt so_far read more =
    ap (sites_at count 0 by_site.empty) (append_assoc done b more) ∙ so_far (b ++ more) ∙ left_at count i last v (b ++ more) lt ∙ ap (λ r. then_at r (others (count - (i + 1)))) (read more)

pub leads_out : (count i last : ℕ) (v : VersionVector) (done b : List ℕ) (e : FrameError) (left : Option (List ℕ)) (old new : ℕ) → i < count → Leads count i last v done
    → ToldErr e (place_at last v b) left old new → ToldErr e (sites_at count 0 by_site.empty (done ++ b)) left old new
leads_out count i last v done b e left old new lt so_far told =
    told_as e _ (then_at (place_at last v b) (others (count - (i + 1)))) left old new (so_far b ∙ left_at count i last v b lt) (told_then e (place_at last v b) (others (count - (i + 1))) left old new told)

pub leads_to_end : (count i last : ℕ) (v : VersionVector) (done : List ℕ) → count ≤ i → Leads count i last v done → (more : List ℕ) → sites_at count 0 by_site.empty (done ++ more) ≡ Ok (v, more)
unfolding sites_at
leads_to_end count i last v done le so_far more =
    let none : count - i ≡ zero = omega arith in
    so_far more ∙ ap (λ n. sites_at n last v more) none

pub none_yet : (count : ℕ) → Leads count 0 0 by_site.empty []
none_yet count more = let same : count ≡ count - 0 = omega arith in ap (λ n. sites_at n 0 by_site.empty more) same

pub none_is_at_most : (last s : ℕ) → by_site.contains_key no_sites s ≡ true → s ≤ last
none_is_at_most last s has = absurd (false≢true (sym (ap is_some (by_site.get-empty nat_cmp s)) ∙ has))
