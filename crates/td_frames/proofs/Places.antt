-- Sites with their numbers, put into a vector.
use Rattle.std.proofs.Common.{◌≡◌, ◌<◌, ◌≤◌, ℕ, Bool, true, false, not, cond, eqb, ltb, Equal, Greater, inl, inr, List, Some, is_some, Result, Ok, ap, refl, sym, ◌∙◌, arith}
use Rattle.std.specs.Cmp.{nat_cmp_total}
use Rattle.std.specs.FinMap as by_site
use Rattle.std.specs.Ordering.{nat_cmp, eq_by_cmp, is_eq}
use Rattle.std.proofs.lemmas.Bool.{cases_Bool, eqb-true}
use Rattle.std.proofs.lemmas.Bool.Decides.{nat_tests}
use Rattle.td_stamps.specs.Vectors.{VersionVector}
use Rattle.td_frames.specs.Reading.{Miss, number_at, then_at}
use Rattle.td_frames.specs.ForProofs.{AreAtMost}

abbrev pub with_number : VersionVector → ℕ → ℕ → List ℕ → Result ((ℕ × VersionVector) × List ℕ) Miss
with_number v s n more = Ok ((s, by_site.insert v s n), more)

abbrev pub number_then : VersionVector → ℕ → List ℕ → Result ((ℕ × VersionVector) × List ℕ) Miss
number_then v s rest = then_at (number_at rest) (with_number v s)

pub is_new : (last site : ℕ) (v : VersionVector) → AreAtMost last v → last < site → by_site.contains_key v site ≡ false
is_new last site v most lt = by (by_site.contains_key v site) refl
  where
    by : (t : Bool) → by_site.contains_key v site ≡ t → t ≡ false
    by true e = absurd (omega (arith, most site e, lt))
    by false e = refl

pub inserted : (v : VersionVector) (site number : ℕ) (new : Bool) (after : VersionVector) → by_site.contains_key v site ≡ false → new ≡ not (by_site.contains_key v site)
    → after ≡ cond new (by_site.insert v site number) v → after ≡ by_site.insert v site number
inserted v site number new after none is put = put ∙ ap (λ t. cond t (by_site.insert v site number) v) (is ∙ ap not none)

at_number : (m n : ℕ) → eq_by_cmp nat_cmp m n ≡ eqb m n
at_number m n = elim (cases_Bool (ltb m n)) [
  | inl less ↦ let differ : eqb m n ≡ false = grind (arith, nat_tests) in rw (less, differ) refl
  | inr not_less ↦ rw not_less (elim (eqb m n) as (λ b. is_eq (cond b Equal Greater) ≡ b) [ true ↦ refl | false ↦ refl ])
]

pub at_most_after : (last site : ℕ) (v : VersionVector) (number : ℕ) → AreAtMost last v → last < site → AreAtMost site (by_site.insert v site number)
at_most_after last site v number most lt s has = by (eqb s site) refl
  where
    got : by_site.get (by_site.insert v site number) s ≡ cond (eqb s site) (Some number) (by_site.get v s)
    got = by_site.get-insert nat_cmp_total v site number s ∙ ap (λ t. cond t (Some number) (by_site.get v s)) (at_number s site)

    by : (t : Bool) → eqb s site ≡ t → s ≤ site
    by true e = omega (arith, eqb-true s site e)
    by false e =
        let there : by_site.contains_key v s ≡ true = sym (ap is_some (got ∙ ap (λ t. cond t (Some number) (by_site.get v s)) e)) ∙ has in
        omega (arith, most s there, lt)
