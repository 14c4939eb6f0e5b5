-- Changes that are taken back in copies, one after the other.
use Rattle.std.proofs.Common.{◌≡◌, ◌<◌, ◌+◌, ℕ, [], ◌∷◌, drop, get_or, length, refl, sym, subst}
use Rattle.td_relations.specs.Deltas.{DeltaData, inverse_of}
use Rattle.td_relvars.specs.Parts.{Copies, FitPart, FitsPart, change_part, undone_part}
use Rattle.td_relvars.proofs.PartLemmas.{still_fits}
use Rattle.td_assign.proofs.Differing.{left_at}
use Rattle.td_assign.proofs.Listed.{Changes, first_there, rest_there}

-- those before the rest are taken back
pub record Undone (old : Copies) (all rest : Changes) (copies : Copies) : Type 0 where
  pub left : undone_part rest copies ≡ undone_part all old
  pub fits : FitPart copies rest

pub none_undone : (old : Copies) (all : Changes) → FitPart old all → Undone old all all old
none_undone old all fits = record { left = refl; fits = fits }

pub comes : (old copies : Copies) (all ds : Changes) (i : ℕ) (x : ℕ × DeltaData) → i < length ds → x ≡ get_or ds i x → Undone old all (drop i ds) copies → Undone old all (x ∷ drop (i + 1) ds) copies
comes old copies all ds i x within at = subst (λ (ys : Changes). Undone old all ys copies) (left_at ds i x within at)

module _ (old : Copies) (all rest : Changes) (p : ℕ × DeltaData) (copies : Copies) (m : Undone old all (p ∷ rest) copies) where
  pub fits_next : FitsPart copies p
  fits_next = m.fits p (first_there p rest)

  pub one_undone : (new : Copies) → new ≡ change_part p.0 (inverse_of p.1) copies → Undone old all rest new
  one_undone new is = subst (Undone old all rest) (sym is) (record {
    left = m.left;
    fits = λ q h. still_fits p.0 (inverse_of p.1) copies q (m.fits q (rest_there p q rest h));
  })

pub all_undone : (old copies : Copies) (all rest : Changes) → rest ≡ [] → Undone old all rest copies → copies ≡ undone_part all old
all_undone old copies all rest none m = subst (λ (ys : Changes). undone_part ys copies ≡ undone_part all old) none m.left
