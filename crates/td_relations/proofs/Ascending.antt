-- Lists of which each element is below the next.
use Rattle.std.proofs.Common.{◌≡◌, ℕ, suc, ◌+◌, ◌<◌, true, List, [], ◌∷◌, length, get_or, refl, sym, ◌∙◌, subst, arith}
use Rattle.std.specs.declared.cmp.Ordering.{Ordering}
use Rattle.std.specs.declared.cmp.Ordering.TheVariants.{Less, Equal, Greater}
use Rattle.std.specs.Cmp.{IsTotalOrder}
use Rattle.std.specs.List.{All}
use Rattle.std.specs.List.Sorted.{IsStrictlySortedBy}
use Rattle.std.specs.Ordering.{is_lt}
use Rattle.td_values.specs.Alike.{AreAlike, values_order}
use Rattle.td_values.specs.Data.{Attrs}
use Rattle.td_values.specs.Order.{attrs_order}
use Rattle.td_values.specs.Proving.Total.{attrs_order_total}
use Rattle.td_values.specs.Whole.{IsWholeTuple}
use Rattle.td_values.proofs.AlikeLemmas.{tuples_alike}
use Rattle.td_relations.proofs.Sorted.{below_cons}

less : (r : Ordering) → true ≡ is_lt r → r ≡ Less
less Less e = refl
less Equal e = cc
less Greater e = cc

module _ {K : Type 0} {R : K → K → Ordering} (o : IsTotalOrder R) where
  from_next : (xs : List K) → ((k : ℕ) (d : K) → suc k < length xs → R (get_or xs k d) (get_or xs (suc k) d) ≡ Less) → IsStrictlySortedBy R xs
  unfolding IsStrictlySortedBy
  from_next [] next = tt
  from_next (x ∷ []) next = (tt, tt)
  from_next (x ∷ y ∷ ys) next =
      let rest : IsStrictlySortedBy R (y ∷ ys) = from_next (y ∷ ys) (λ k d l. next (suc k) d (omega (arith, l))) in
      (below_cons o x y ys (next 0 x (omega arith)) rest.0, rest)

-- tuples of one heading, of which each is below the next by its values alone
pub ascends : (ts : List Attrs) → AreAlike ts → All IsWholeTuple ts → ((k : ℕ) (d : Attrs) → k + 1 < length ts → true ≡ is_lt (values_order (get_or ts k d) (get_or ts (k + 1) d))) → IsStrictlySortedBy attrs_order ts
ascends ts alike whole next = from_next attrs_order_total ts (λ k d l.
    let here : k < length ts = omega (arith, l) in
    let behind : k + 1 < length ts = omega (arith, l) in
    let below = sym (tuples_alike (get_or ts k d) (get_or ts (k + 1) d) (whole k d here) (whole (k + 1) d behind) (alike k d here (k + 1) d behind)) ∙ less _ (next k d behind) in
    let one : k + 1 ≡ suc k = omega arith in
    subst (λ j. attrs_order (get_or ts k d) (get_or ts j d) ≡ Less) one below)
