-- A sorted list without repeats has the members of the list that was sorted.
use Rattle.std.proofs.Common.{◌≡◌, ◌↔◌, ℕ, List, nat_eq, sym, subst}
use Rattle.std.specs.List.{Contains, dedup}
use Rattle.std.specs.List.Sorted.{IsPermutation, IsSorted, IsStrictlySortedBy}
use Rattle.std.specs.Ordering.{nat_cmp}
use Rattle.std.proofs.lemmas.List.Kept.{Contains-dedup_nat, Contains-from_dedup}
use Rattle.std.proofs.lemmas.List.Sorted.{Contains-permutation, IsPermutation-sym}
use Rattle.std.proofs.lemmas.Map.Keys.{IsStrictlyIncreasing-dedup, sorted_from_strictly_increasing}
use Rattle.td_headings.specs.Reached.{AreThose}

pub those : (P : ℕ → Type 0) (xs ys zs : List ℕ) → ((w : ℕ) → Contains xs w ↔ P w) → IsPermutation xs ys → IsSorted nat_cmp ys → zs ≡ dedup nat_eq ys → AreThose P zs
those P xs ys zs has moved sorted is = record {
  members = λ w. (
    (λ h. (has w).0 (Contains-permutation ys xs w (IsPermutation-sym xs ys moved) (Contains-from_dedup nat_eq ys w (subst (λ l. Contains l w) is h)))),
    (λ p. subst (λ l. Contains l w) (sym is) (Contains-dedup_nat ys w (Contains-permutation xs ys w moved ((has w).1 p)))),
  );
  ascending = subst (IsStrictlySortedBy nat_cmp) (sym is) (sorted_from_strictly_increasing (dedup nat_eq ys) (IsStrictlyIncreasing-dedup ys sorted));
}

-- those that stand in a list are those with the property that its members have
pub those_with : (P : ℕ → Type 0) (xs zs : List ℕ) → ((w : ℕ) → Contains xs w ↔ P w) → AreThose (Contains xs) zs → AreThose P zs
those_with P xs zs has a = record {
  members = λ w. ((λ h. (has w).0 ((a.members w).0 h)), (λ p. (a.members w).1 ((has w).1 p)));
  ascending = a.ascending;
}
