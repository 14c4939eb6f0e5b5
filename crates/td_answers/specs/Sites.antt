-- The sites of a workbench: what each is seen as, in their order.
use Rattle.std.specs.Prelude.{◌≡◌, ◌⊎◌, ℕ, suc, ◌==◌, if◌then◌else◌, List, [], ◌∷◌, codes, Option, Some, None, option_map}
use Rattle.std.specs.List.{AllByRecursion}
use Rattle.td_headings.specs.Catalogues.{CatalogueData}
use Rattle.td_semantics.specs.Scripts.{IsScriptOf}
use Rattle.td_replica.specs.Seen.{Seen}

abbrev pub Sites : Type 0
Sites = List Seen

-- a place, and the site there
abbrev pub Placed : Type 0
Placed = ℕ × Seen

abbrev pub one_on : Placed → Placed
one_on p = (suc p.0, p.1)

-- the first site of this number, with its place
abbrev pub site_of : ℕ → Sites → Option Placed
site_of n [] = None
site_of n (s ∷ ss) = if s.site == n then Some (0, s) else option_map one_on (site_of n ss)

-- two sites at two places
abbrev pub two_placed : Placed → Placed → Option (Placed × Placed)
two_placed p q = if p.0 == q.0 then None else Some (p, q)

abbrev pub two_of : Option Placed → Option Placed → Option (Placed × Placed)
two_of (Some p) (Some q) = two_placed p q
two_of (Some p) None = None
two_of None o = None

-- the first sites of two numbers, where both are there and they are two
abbrev pub sites_of : ℕ → ℕ → Sites → Option (Placed × Placed)
sites_of n m ss = two_of (site_of n ss) (site_of m ss)

-- they started from one script
abbrev pub AreOfOneScript : Sites → Type 0
AreOfOneScript ss = (script : List ℕ) × AllByRecursion (λ s. s.script ≡ script) ss

-- the catalogue is that of each site's script
abbrev pub AreOfScript : CatalogueData → Sites → Type 0
AreOfScript c ss = AllByRecursion (λ s. IsScriptOf s.script c) ss

-- what holds of a site before holds of the one that stands at its place after
abbrev pub EachStays : {R : Type 0} → (R → Type 0) → List R → List R → Type 0
EachStays P [] [] = Unit {0}
EachStays P [] (y ∷ ys) = ⊥
EachStays P (x ∷ xs) [] = ⊥
EachStays P (x ∷ xs) (y ∷ ys) = (P x → P y) × EachStays P xs ys

-- this happens between one of the sites and the one that stands at its place after
abbrev pub HappensToOne : {R : Type 0} → (R → R → Type 0) → List R → List R → Type 0
HappensToOne P [] ys = ⊥
HappensToOne P (x ∷ xs) [] = ⊥
HappensToOne P (x ∷ xs) (y ∷ ys) = P x y ⊎ HappensToOne P xs ys

-- where a site is not there
abbrev pub TellsNoSite : Sites → List ℕ → Sites → Type 0
TellsNoSite old text new = (text ≡ codes "fault site\n") × (new ≡ old)
