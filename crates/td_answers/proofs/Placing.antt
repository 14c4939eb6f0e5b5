-- Sites by their numbers and by their places.
use Rattle.std.proofs.Common.{◌≡◌, ◌<◌, ◌≤◌, ◌+◌, ◌==◌, ℕ, zero, suc, Bool, true, false, cond, List, [], ◌∷◌, Option, Some, None, option_map, length, map, drop, get_or, refl, sym, ap, ◌∙◌, subst, arith, add-one, add-zero}
use Rattle.std.specs.List.{slice_get, slice_set, AllByRecursion}
use Rattle.std.proofs.Math.Seq.{drop-cons}
use Rattle.std.proofs.lemmas.Bool.{ne_eqb}
use Rattle.std.proofs.lemmas.Option.{slice_get-get_or, slice_get-map}
use Rattle.td_headings.specs.Catalogues.{CatalogueData}
use Rattle.td_semantics.specs.Scripts.{IsScriptOf}
use Rattle.td_replica.specs.Seen.{Seen}
use Rattle.td_answers.specs.Answers.{SiteAnswered}
use Rattle.td_answers.specs.ForProofs.Said.{IsSiteOf, TellsIn, place_in}
use Rattle.td_answers.specs.Sites.{AreOfOneScript, AreOfScript, Placed, Sites, TellsNoSite, one_on, site_of}

-- ---- a walk along the sites

-- the place among all is so far on from the place among those that are left
abbrev pub Reaches : {R : Type 0} → (R → Seen) → ℕ → List R → ℕ → Type 0
Reaches seen n rs at = option_map place_in (site_of n (map seen rs)) ≡ option_map (λ (k : ℕ). at + k) (option_map place_in (site_of n (map seen (drop at rs))))

same_numbers : (m n : ℕ) → m ≡ n → m == n ≡ true
same_numbers m n e = rw e (grind arith)

from_start : (o : Option ℕ) → o ≡ option_map (λ (k : ℕ). 0 + k) o
from_start None = refl
from_start (Some k) = ap Some (omega arith)

pub reaches_start : {R : Type 0} (seen : R → Seen) (n : ℕ) (rs : List R) → Reaches seen n rs 0
reaches_start seen n rs = from_start (option_map place_in (site_of n (map seen rs)))

first_left : {R : Type 0} (seen : R → Seen) (rs : List R) (at : ℕ) (x : R) → at < length rs → x ≡ get_or rs at x → drop at rs ≡ x ∷ drop (at + 1) rs
first_left seen rs at x within is = rw add-one (drop-cons rs at x within ∙ ap (λ y. y ∷ drop (suc at) rs) (sym is))

pub reached : {R : Type 0} (seen : R → Seen) (n : ℕ) (rs : List R) (at : ℕ) (x : R) → at < length rs → x ≡ get_or rs at x → (seen x).site ≡ n → Reaches seen n rs at → Some at ≡ option_map place_in (site_of n (map seen rs))
reached seen n rs at x within is number reaches =
    let left = first_left seen rs at x within is in
    let there : option_map (λ (k : ℕ). at + k) (option_map place_in (site_of n (map seen (x ∷ drop (at + 1) rs)))) ≡ Some at =
    rw (same_numbers (seen x).site n number) (ap Some (add-zero at)) in
    sym (reaches ∙ ap (λ l. option_map (λ (k : ℕ). at + k) (option_map place_in (site_of n (map seen l)))) left ∙ there)

one_further : (at : ℕ) (o : Option Placed) → option_map (λ (k : ℕ). at + k) (option_map place_in (option_map one_on o)) ≡ option_map (λ (k : ℕ). (at + 1) + k) (option_map place_in o)
one_further at None = refl
one_further at (Some p) = ap Some (omega arith)

pub reaches_on : {R : Type 0} (seen : R → Seen) (n : ℕ) (rs : List R) (at : ℕ) (x : R) → at < length rs → x ≡ get_or rs at x → ((seen x).site ≡ n → ⊥) → Reaches seen n rs at → Reaches seen n rs (at + 1)
reaches_on seen n rs at x within is other reaches =
    let left = first_left seen rs at x within is in
    let there : option_map (λ (k : ℕ). at + k) (option_map place_in (site_of n (map seen (x ∷ drop (at + 1) rs)))) ≡ option_map (λ (k : ℕ). (at + 1) + k) (option_map place_in (site_of n (map seen (drop (at + 1) rs)))) =
    rw (ne_eqb (seen x).site n other) (one_further at (site_of n (map seen (drop (at + 1) rs)))) in
    reaches ∙ ap (λ l. option_map (λ (k : ℕ). at + k) (option_map place_in (site_of n (map seen l)))) left ∙ there

-- ---- the site at a place

further : (ss : Sites) (p : Placed) (o : Option Placed) → ((q : Placed) → o ≡ Some q → slice_get ss q.0 ≡ Some q.1) → (s : Seen) → option_map one_on o ≡ Some p → slice_get (s ∷ ss) p.0 ≡ Some p.1
further ss p None get s e = cc
further ss p (Some q) get s e =
    let same : ◌≡◌ {A = Placed} (suc q.0, q.1) p = cc in
    subst (λ (r : Placed). slice_get (s ∷ ss) r.0 ≡ Some r.1) same (get q refl)

first_or : (n : ℕ) (s : Seen) (ss : Sites) (p : Placed) (b : Bool) → ((q : Placed) → site_of n ss ≡ Some q → slice_get ss q.0 ≡ Some q.1)
    → cond b (Some (0, s)) (option_map one_on (site_of n ss)) ≡ Some p → slice_get (s ∷ ss) p.0 ≡ Some p.1
first_or n s ss p true get e =
    let same : ◌≡◌ {A = Placed} (0, s) p = cc in
    subst (λ (r : Placed). slice_get (s ∷ ss) r.0 ≡ Some r.1) same refl
first_or n s ss p false get e = further ss p (site_of n ss) get s e

pub site_there : (n : ℕ) (ss : Sites) (p : Placed) → site_of n ss ≡ Some p → slice_get ss p.0 ≡ Some p.1
site_there n [] p e = cc
site_there n (s ∷ ss) p e = first_or n s ss p (s.site == n) (site_there n ss) e

-- what stands at a place of the sites is seen there, however it is read
pub seen_read : {R : Type 0} (seen : R → Seen) (rs : List R) (at : ℕ) (d : R) → at < length rs → slice_get (map seen rs) at ≡ Some (seen (get_or rs at d))
seen_read seen rs at d within = slice_get-map seen rs at ∙ ap (option_map seen) (slice_get-get_or rs at d within)

pub seen_there : {R : Type 0} (seen : R → Seen) (rs : List R) (at : ℕ) (x : R) → at < length rs → x ≡ get_or rs at x → slice_get (map seen rs) at ≡ Some (seen x)
seen_there seen rs at x within is = seen_read seen rs at x within ∙ ap (λ y. Some (seen y)) (sym is)

pub some_seen : (s t : Seen) → Some s ≡ Some t → s ≡ t
some_seen s t e = cc

found_by : (n : ℕ) (ss : Sites) (at : ℕ) (s : Seen) (o : Option Placed) → site_of n ss ≡ o → Some at ≡ option_map place_in o → slice_get ss at ≡ Some s → site_of n ss ≡ Some (at, s)
found_by n ss at s None is e there = cc
found_by n ss at s (Some p) is e there =
    let place : p.0 ≡ at = cc in
    let known = subst (λ (k : ℕ). slice_get ss k ≡ Some p.1) place (site_there n ss p is) in
    let site : p.1 ≡ s = some_seen p.1 s (sym known ∙ there) in
    is ∙ ap (λ (k : ℕ). Some (k, p.1)) place ∙ ap (λ (t : Seen). Some (at, t)) site

pub found_read : {R : Type 0} (seen : R → Seen) (n : ℕ) (rs : List R) (at : ℕ) (d : R) → Some at ≡ option_map place_in (site_of n (map seen rs)) → at < length rs → site_of n (map seen rs) ≡ Some (at, seen (get_or rs at d))
found_read seen n rs at d place within = found_by n (map seen rs) at (seen (get_or rs at d)) (site_of n (map seen rs)) refl place (seen_read seen rs at d within)

-- the site that stands at the place of a number
pub found : {R : Type 0} (seen : R → Seen) (n : ℕ) (rs : List R) (at : ℕ) (x : R) → Some at ≡ option_map place_in (site_of n (map seen rs)) → at < length rs → x ≡ get_or rs at x → site_of n (map seen rs) ≡ Some (at, seen x)
found seen n rs at x place within is = found_by n (map seen rs) at (seen x) (site_of n (map seen rs)) refl place (seen_there seen rs at x within is)

none_by : (o : Option Placed) → None ≡ option_map place_in o → o ≡ None
none_by None e = refl
none_by (Some p) e = cc

pub none : (n : ℕ) (ss : Sites) → None ≡ option_map place_in (site_of n ss) → site_of n ss ≡ None
none n ss e = none_by (site_of n ss) e

-- ---- a site is asked

pub tells_site : (Asked : Seen → List ℕ → Type 0) (n : ℕ) (ss : Sites) (s : Seen) (text : List ℕ) → IsSiteOf n ss s → Asked s text → TellsIn Asked n ss text
tells_site Asked n ss s text (at, is) told = subst (λ (o : Option Placed). SiteAnswered Asked ss o text ss) (sym is) (told, refl)

pub tells_none : (Asked : Seen → List ℕ → Type 0) (n : ℕ) (ss : Sites) (text : List ℕ) → site_of n ss ≡ None → TellsNoSite ss text ss → TellsIn Asked n ss text
tells_none Asked n ss text is told = subst (λ (o : Option Placed). SiteAnswered Asked ss o text ss) (sym is) told

-- ---- all sites

pub all_there : (P : Seen → Type 0) (ss : Sites) (at : ℕ) (s : Seen) → AllByRecursion P ss → slice_get ss at ≡ Some s → P s
all_there P [] at s all e = cc
all_there P (x ∷ ss) zero s all e = let same : x ≡ s = cc in subst P same all.0
all_there P (x ∷ ss) (suc at) s all e = all_there P ss at s all.1 e

pub all_set : (P : Seen → Type 0) (ss : Sites) (at : ℕ) (s : Seen) → AllByRecursion P ss → P s → AllByRecursion P (slice_set ss at s)
all_set P [] at s all here = all
all_set P (x ∷ ss) zero s all here = (here, all.1)
all_set P (x ∷ ss) (suc at) s all here = (all.0, all_set P ss at s all.1 here)

pub set_there : (ss : Sites) (at : ℕ) (s : Seen) → slice_get ss at ≡ Some s → slice_set ss at s ≡ ss
set_there [] at s e = cc
set_there (x ∷ ss) zero s e = let same : x ≡ s = cc in ap (λ (y : Seen). y ∷ ss) (sym same)
set_there (x ∷ ss) (suc at) s e = ap (λ (ys : Sites). x ∷ ys) (set_there ss at s e)

pub site_of_script : (c : CatalogueData) (n : ℕ) (ss : Sites) (s : Seen) → AreOfScript c ss → IsSiteOf n ss s → IsScriptOf s.script c
site_of_script c n ss s all (at, is) = all_there (λ t. IsScriptOf t.script c) ss at s all (site_there n ss (at, s) is)

of_one : (c : CatalogueData) (script : List ℕ) (ss : Sites) → IsScriptOf script c → AllByRecursion (λ s. s.script ≡ script) ss → AreOfScript c ss
of_one c script [] of all = all
of_one c script (s ∷ ss) of all = (subst (λ t. IsScriptOf t c) (sym all.0) of, of_one c script ss of all.1)

-- the catalogue of the first site's script is that of all
pub of_first : {R : Type 0} (seen : R → Seen) (rs : List R) (x : R) (c : CatalogueData) → 1 ≤ length rs → x ≡ get_or rs 0 x → AreOfOneScript (map seen rs) → IsScriptOf (seen x).script c → AreOfScript c (map seen rs)
of_first seen [] x c some is one of = absurd (omega arith)
of_first seen (r ∷ rs) x c some is (script, all) of = of_one c script (map seen (r ∷ rs)) (subst (λ t. IsScriptOf t c) (ap (λ y. (seen y).script) is ∙ all.0) of) all
