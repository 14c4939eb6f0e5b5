-- What a binary search finds in a list that is sorted by a key; the same names in another order.
use Rattle.std.proofs.Common.{◌≡◌, ℕ, zero, suc, ◌-◌, ◌<◌, false, List, [], ◌∷◌, length, get_or, Result, Ok, Err, is_ok, not, refl, sym, ap, ◌∙◌, arith}
use Rattle.std.specs.declared.cmp.Ordering.{Ordering}
use Rattle.std.specs.Cmp.{IsTotalOrder}
use Rattle.std.specs.FinMap as by_name
use Rattle.std.specs.List.{list_any}
use Rattle.std.specs.List.Sorted.{IsPermutation, IsSorted, IsSortedByKey, IsBinarySearchResult, IsSearchInRange}
use Rattle.std.specs.Ordering.{eq_by_cmp, is_eq}
use Rattle.std.proofs.lemmas.List.Folds.{list_any_at, list_any_none}
use Rattle.std.proofs.lemmas.List.Sorted.{searchable_from_sorted, list_any-IsPermutation}
use Rattle.td_values.specs.Headings.{Header}
use Rattle.td_values.specs.Order.{text_cmp}
use Rattle.td_values.specs.TextOrder.{text_total, text_equivalence}
use Rattle.td_tuples.specs.Parts.{is_in, columns_in, columns_out}

-- what a binary search by the key finds
pub search_finds : {K X : Type 0} {R : K → K → Ordering} (o : IsTotalOrder R) (key : X → K) (xs : List X) (k : K) → IsSortedByKey key R xs → (r : Result ℕ ℕ) → IsSearchInRange r (length xs) → IsBinarySearchResult (λ x. R (key x) k) xs r → is_ok r ≡ list_any (λ x. eq_by_cmp R (key x) k) xs
search_finds o key [] k sorted (Ok i) range found = absurd (omega arith)
search_finds {K} {X} {R} o key (x ∷ xs) k sorted (Ok i) range found = sym (list_any_at (λ (y : X). eq_by_cmp R (key y) k) (x ∷ xs) i x range (ap is_eq (found x)))
search_finds {K} {X} {R} o key xs k sorted (Err i) range found =
    sym (list_any_none (λ (y : X). eq_by_cmp R (key y) k) xs (λ j d lt. apart j d lt (i - j) refl))
  where
    apart : (j : ℕ) (d : X) → j < length xs → (n : ℕ) → i - j ≡ n → eq_by_cmp R (key (get_or xs j d)) k ≡ false
    apart j d lt zero h = ap is_eq ((found (searchable_from_sorted o key xs k sorted)).1 j d (omega arith) lt)
    apart j d lt (suc n) h = ap is_eq ((found (searchable_from_sorted o key xs k sorted)).0 j d (omega arith) (omega arith))

pub name_found : (names : List (List ℕ)) (n : List ℕ) → IsSorted text_cmp names → (r : Result ℕ ℕ) → IsSearchInRange r (length names) → IsBinarySearchResult (λ m. text_cmp m n) names r → is_ok r ≡ is_in names n
name_found names n sorted r range found =
    search_finds text_total (λ (m : List ℕ). m) names n sorted r range found
    ∙ ap (λ p. list_any p names) (λ i m. text_equivalence.symm m n i)

module _ (xs ys : List (List ℕ)) (same : IsPermutation xs ys) where
  in_either : (n : List ℕ) → is_in ys n ≡ is_in xs n
  in_either n = sym (list_any-IsPermutation (eq_by_cmp text_cmp n) xs ys same)

  pub columns_in-permuted : (h : Header) → columns_in ys h ≡ columns_in xs h
  columns_in-permuted h = ap (λ p. by_name.retain_keys h p) (λ i n. in_either n i)

  pub columns_out-permuted : (h : Header) → columns_out ys h ≡ columns_out xs h
  columns_out-permuted h = ap (λ p. by_name.retain_keys h p) (λ i n. not (in_either n i))
