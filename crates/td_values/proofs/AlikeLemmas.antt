-- Tuples of one heading compare by their values alone.
use Rattle.std.proofs.Common.{◌≡◌, ℕ, ◌+◌, ◌<◌, List, length, get_or, Result, Ok, Err, refl, sym, ap, ◌∙◌, arith}
use Rattle.std.specs.declared.cmp.Ordering.TheVariants.{Equal}
use Rattle.std.specs.Cmp.{IsStrictWeakOrder, tied_itself}
use Rattle.std.specs.List.{All}
use Rattle.std.specs.List.Sorted.{IsBinarySearchResult, IsPermutation, IsSearchInRange, IsSorted, IsSortedBy}
use Rattle.std.specs.Ordering.{is_lt, ordering_index, ordering_then}
use Rattle.std.proofs.lemmas.List.Sorted.{All-permutation, ranks_by}
use Rattle.td_values.specs.Alike.{AreAlike, bare, bare_tuple, bare_tuples, values_order}
use Rattle.td_values.specs.Data.{Fields, Datum, boolean, integer, char, user, tuple, relation, Attrs, no_attrs, attr, Tuples, no_tuples, next_tuple}
use Rattle.td_values.specs.Order.{text_cmp, order, items_order, attrs_order, tuples_order, fields_order}
use Rattle.td_values.specs.TextOrder.{text_total}
use Rattle.td_values.specs.Proving.Total.{attrs_order_total}
use Rattle.td_values.specs.Whole.{type_of, heading_of, IsWhole, IsWholeTuple, AreRowsOf}
use Rattle.td_values.proofs.FieldLemmas.{fields_tie_themselves}

same_text : (m n : List ℕ) → m ≡ n → text_cmp m n ≡ Equal
same_text m n e = ap (text_cmp m) (sym e) ∙ tied_itself text_total m

same_headings : (h k : Fields) → h ≡ k → fields_order h k ≡ Equal
same_headings h k e = ap (fields_order h) (sym e) ∙ fields_tie_themselves h

mutual
  pub alike : (d e : Datum) → IsWhole d → IsWhole e → type_of d ≡ type_of e → order (bare d) (bare e) ≡ order d e
  alike (boolean a) (boolean b) v w h = refl
  alike (integer m) (integer n) v w h = refl
  alike (char s) (char t) v w h = refl
  alike (user p is) (user q js) v w h =
      let name : p.ty ≡ q.ty = cc in
      sym (ap (λ o. ordering_then (ordering_then o (text_cmp p.name q.name)) (items_order is js)) (same_text p.ty q.ty name))
  alike (tuple s) (tuple t) v w h =
      let headings : heading_of s ≡ heading_of t = cc in
      tuples_alike s t v w headings
  alike (relation h ts) (relation k us) v w e =
      let headings : h ≡ k = cc in
      rows_alike h k ts us v w headings ∙ sym (ap (λ o. ordering_then o (tuples_order ts us)) (same_headings h k headings))
  alike d e v w h = cc

  pub tuples_alike : (s t : Attrs) → IsWholeTuple s → IsWholeTuple t → heading_of s ≡ heading_of t → values_order s t ≡ attrs_order s t
  tuples_alike no_attrs no_attrs v w h = refl
  tuples_alike no_attrs (attr n e t) v w h = cc
  tuples_alike (attr m d s) no_attrs v w h = cc
  tuples_alike (attr m d s) (attr n e t) v w h =
      let name : m ≡ n = cc in
      let ty : type_of d ≡ type_of e = cc in
      let rest : heading_of s ≡ heading_of t = cc in
      (λ i. ordering_then (alike d e v.0 w.0 ty i) (tuples_alike s t v.2 w.2 rest i))
      ∙ sym (ap (λ o. ordering_then o (ordering_then (order d e) (attrs_order s t))) (same_text m n name))

  rows_alike : (h k : Fields) (ts us : Tuples) → AreRowsOf h ts → AreRowsOf k us → h ≡ k → tuples_order (bare_tuples ts) (bare_tuples us) ≡ tuples_order ts us
  rows_alike h k no_tuples no_tuples v w e = refl
  rows_alike h k no_tuples (next_tuple u us) v w e = refl
  rows_alike h k (next_tuple t ts) no_tuples v w e = refl
  rows_alike h k (next_tuple t ts) (next_tuple u us) v w e =
      λ i. ordering_then (tuples_alike t u v.1 w.1 (v.0 ∙ e ∙ sym w.0) i) (rows_alike h k ts us v.3 w.3 e i)

-- tuples of one heading are alike
pub alike_by : (h : Fields) (ts : List Attrs) → All (λ t. heading_of t ≡ h) ts → AreAlike ts
alike_by h ts fit k d p j e q = fit k d p ∙ sym (fit j e q)

-- what holds of each two of the tuples still does when they are moved
pub alike_moved : (ts us : List Attrs) → IsPermutation ts us → AreAlike ts → AreAlike us
alike_moved ts us moved a =
    let first : All (λ t. All (λ u. heading_of t ≡ heading_of u) ts) us = All-permutation (λ t. All (λ u. heading_of t ≡ heading_of u) ts) ts us moved a in
    λ k d p. All-permutation (λ u. heading_of (get_or us k d) ≡ heading_of u) ts us moved (first k d p)

-- an order by values alone serves to sort, and what it sorts is sorted
pub values_rank : IsStrictWeakOrder (λ s t. is_lt (values_order s t))
values_rank = ranks_by attrs_order_total bare_tuple

pub sorted_alike : (ts : List Attrs) → AreAlike ts → All IsWholeTuple ts → IsSortedBy (λ s t. is_lt (values_order s t)) ts → IsSorted attrs_order ts
sorted_alike ts a w up k d low lt =
    sym (ap is_lt (tuples_alike (get_or ts (k + 1) d) (get_or ts k d) (w (k + 1) d lt) (w k d (omega arith)) (a (k + 1) d lt k d (omega arith)))) ∙ up k d low lt

-- and what it finds is there
module _ (ts : List Attrs) (t : Attrs) (a : All (λ s. heading_of s ≡ heading_of t) ts) (w : All IsWholeTuple ts) (v : IsWholeTuple t) where
  at_place : (k : ℕ) (d : Attrs) → k < length ts → values_order (get_or ts k d) t ≡ attrs_order (get_or ts k d) t
  at_place k d lt = tuples_alike (get_or ts k d) t (w k d lt) v (a k d lt)

  pub found_alike : (r : Result ℕ ℕ) → IsSearchInRange r (length ts) → IsBinarySearchResult (λ s. values_order s t) ts r → IsBinarySearchResult (λ s. attrs_order s t) ts r
  found_alike (Ok i) range at = λ d. sym (at_place i d range) ∙ at d
  found_alike (Err i) range parted = λ rises.
      let p = parted (λ i j d le lt. omega (arith, ap ordering_index (at_place i d (omega arith)), ap ordering_index (at_place j d lt), rises i j d le lt)) in
      (λ k d low below. sym (at_place k d (omega arith)) ∙ p.0 k d low below, λ k d ge lt. sym (at_place k d lt) ∙ p.1 k d ge lt)
