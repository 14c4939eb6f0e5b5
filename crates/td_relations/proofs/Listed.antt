-- A relation of a list of tuples: sorted, each once.
use Rattle.std.proofs.Common.{◌≡◌, suc, Bool, true, false, ◌||◌, cond, List, [], ◌∷◌, refl, sym, ap, ◌∙◌, subst, arith}
use Rattle.std.specs.Ordering.{eq_by_cmp, is_eq}
use Rattle.std.specs.List.{All, list_any, dedup, dedup_from}
use Rattle.std.specs.List.Sorted.{IsPermutation, IsSorted, IsStrictlySortedBy}
use Rattle.std.specs.FinSet as set
use Rattle.std.proofs.lemmas.List.Sorted.{list_any-IsPermutation, All-permutation}
use Rattle.std.proofs.lemmas.List.Filters.{All-dedup}
use Rattle.std.proofs.lemmas.List.Kept.{IsStrictlySortedBy-dedup}
use Rattle.td_values.specs.Alike.{AreAlike, values_order}
use Rattle.td_values.specs.Data.{Fields, Attrs}
use Rattle.td_values.specs.Whole.{heading_of, IsWholeTuple}
use Rattle.td_values.proofs.AlikeLemmas.{tuples_alike}
use Rattle.td_values.specs.Headings.{Header}
use Rattle.td_values.specs.Order.{attrs_order}
use Rattle.td_values.specs.Proving.Total.{attrs_order_total, attrs_tied}
use Rattle.td_values.proofs.Walks.{is_tied}
use Rattle.td_relations.specs.Sets.{IsRelation}
use Rattle.td_relations.proofs.Fits.{Fits}

abbrev ties : Attrs → Attrs → Bool
ties = eq_by_cmp attrs_order

or_twice : (a b : Bool) → (a || (a || b)) ≡ (a || b)
or_twice true b = refl
or_twice false b = refl

any_from : (p : Attrs → Bool) (k : Attrs) (xs : List Attrs) → list_any p (dedup_from ties k xs) ≡ (p k || list_any p xs)
any_from p k [] = refl
any_from p k (x ∷ xs) =
    elim (ties x k) as (λ b. ties x k ≡ b → list_any p (cond b (dedup_from ties k xs) (k ∷ dedup_from ties x xs)) ≡ (p k || (p x || list_any p xs))) [
      | true ↦ λ e. any_from p k xs ∙ sym (or_twice (p k) (list_any p xs)) ∙ ap (λ w. p k || (p w || list_any p xs)) (sym (attrs_tied x k (is_tied _ e)))
      | false ↦ λ e. ap (λ b. p k || b) (any_from p x xs)
    ] refl

any_dedup : (p : Attrs → Bool) (xs : List Attrs) → list_any p (dedup ties xs) ≡ list_any p xs
any_dedup p [] = refl
any_dedup p (x ∷ xs) = any_from p x xs

-- ---- tuples of one heading, compared by their values alone
abbrev by_values : Attrs → Attrs → Bool
by_values s t = is_eq (values_order s t)

module _ (h : Fields) where
  abbrev IsOf : Attrs → Type 0
  IsOf t = (heading_of t ≡ h) × IsWholeTuple t

  rest_of : (x : Attrs) (xs : List Attrs) → All IsOf (x ∷ xs) → All IsOf xs
  rest_of x xs all k d lt = all (suc k) d (omega arith)

  from_alike : (k : Attrs) (xs : List Attrs) → IsOf k → All IsOf xs → dedup_from by_values k xs ≡ dedup_from ties k xs
  from_alike k [] of all = refl
  from_alike k (x ∷ xs) of all =
      let x_of = all 0 x (omega arith) in
      let same : by_values x k ≡ ties x k = ap is_eq (tuples_alike x k x_of.1 of.1 (x_of.0 ∙ sym of.0)) in
      (λ i. cond (same i) (from_alike k xs of (rest_of x xs all) i) (k ∷ from_alike x xs x_of (rest_of x xs all) i))

pub dedup_alike : (ts : List Attrs) → AreAlike ts → All IsWholeTuple ts → dedup by_values ts ≡ dedup ties ts
dedup_alike [] alike whole = refl
dedup_alike (k ∷ xs) alike whole =
    let h = heading_of k in
    from_alike h k xs (refl, whole 0 k (omega arith))
    (λ i d lt. (sym (alike 0 k (omega arith) (suc i) d (omega arith)), whole (suc i) d (omega arith)))

-- zs is what a sort and a dedup leave of xs
pub listed : (h : Header) (xs ys zs : List Attrs) → IsPermutation xs ys → IsSorted attrs_order ys → zs ≡ dedup ties ys → IsRelation h (set.from_list xs) (record { heading = h; tuples = zs })
listed h xs ys zs moved up is = record {
  heading = refl;
  members = set.same_set attrs_order_total attrs_tied _ _ (λ q.
      set.contains-from_list attrs_order_total zs q ∙ ap (list_any (eq_by_cmp attrs_order q)) is ∙ any_dedup (eq_by_cmp attrs_order q) ys
      ∙ sym (list_any-IsPermutation (eq_by_cmp attrs_order q) xs ys moved) ∙ sym (set.contains-from_list attrs_order_total xs q));
  ascending = subst (IsStrictlySortedBy attrs_order) (sym is) (IsStrictlySortedBy-dedup attrs_order_total (λ x y. refl) ys up);
}

pub fit_listed : (h : Header) (xs ys zs : List Attrs) → IsPermutation xs ys → zs ≡ dedup ties ys → All (Fits h) xs → All (Fits h) zs
fit_listed h xs ys zs moved is fit = subst (All (Fits h)) (sym is) (All-dedup ties (Fits h) ys (All-permutation (Fits h) xs ys moved fit))
