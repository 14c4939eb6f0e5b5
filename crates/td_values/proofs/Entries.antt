-- Entries in name order: where a name stands among them, and what is found at it.
use Rattle.std.proofs.Common.{◌≡◌, ℕ, zero, suc, ◌+◌, ◌<◌, ◌≤◌, Bool, true, false, ◌&&◌, T, cond, List, [], ◌∷◌, length, get_or, None, Some, is_some, not, refl, sym, ap, ◌∙◌, subst, arith}
use Rattle.std.specs.declared.cmp.Ordering.{Ordering}
use Rattle.std.specs.declared.cmp.Ordering.TheVariants.{Less, Equal, Greater}
use Rattle.std.specs.Ordering.{eq_by_cmp, is_eq, is_lt, ordering_reverse, ordering_index}
use Rattle.std.specs.List.{insert}
use Rattle.std.specs.List.Sorted.{IsNonDecreasingBy, IsBinarySearchResult, IsSearchInRange}
use Rattle.std.specs.FinMap as map
use Rattle.std.specs.FinMap.Entries.{below_all}
use Rattle.std.proofs.Common.{Result, Ok, Err, IfOk, IfErr}
use Rattle.std.proofs.lemmas.List.Sorted.{searchable_from_sorted}
use Rattle.std.proofs.lemmas.Map.Lookups.{exact_bytes}
use Rattle.td_values.specs.Data.{Ty, Datum, Attrs, attrs_of}
use Rattle.td_values.specs.Headings.{Header}
use Rattle.td_values.specs.Attributes.{attribute_of}
use Rattle.td_values.specs.Order.{text_cmp}
use Rattle.td_values.specs.Proving.Places.{IsPlaceOf, IsGapFor}
use Rattle.td_values.specs.TextOrder.{text_total}
use Rattle.td_values.specs.Whole.{NamesAscend, IsWholeTuple}

-- the entries of a map that is seen through its list
pub entries_seen : {X : Type 0} {m : map.FinMap text_cmp X} (es : List (List ℕ × X)) → T (map.is_sorted text_cmp es) → map.from_sorted es ≡ m → map.entries m ≡ es
entries_seen es s view = sym (ap map.entries view) ∙ map.entries-from_sorted text_cmp es s

-- no entries make the empty map
pub none_seen : (X : Type 0) → map.from_sorted {X = X} {R = text_cmp} [] ≡ map.empty
none_seen X = map.empty_of_len (map.from_sorted []) (map.len-entries (map.from_sorted []) ∙ ap length (map.entries-from_sorted text_cmp [] tt))

pub first : (a b : Bool) → T (a && b) → T a
first true b p = tt
first false b p = absurd p

pub second : (a b : Bool) → T (a && b) → T b
second true b p = p
second false b p = absurd p

both : (a b : Bool) → T a → T b → T (a && b)
both true b p q = q
both false b p q = absurd p

pub less : (o : Ordering) → T (is_lt o) → o ≡ Less
less Less p = refl
less Equal p = absurd p
less Greater p = absurd p

turned : (m n : List ℕ) (o : Ordering) → text_cmp m n ≡ o → text_cmp n m ≡ ordering_reverse o
turned m n o e = text_total.antisymm n m ∙ ap ordering_reverse e

module _ {X : Type 0} where
  below_at : (n : List ℕ) (es : List (List ℕ × X)) (i : ℕ) (d : List ℕ × X) → i < length es → T (below_all text_cmp n es) → text_cmp n (get_or es i d).0 ≡ Less
  below_at n [] i d lt b = absurd (omega arith)
  below_at n (e ∷ es) zero d lt b = less _ (first _ _ b)
  below_at n (e ∷ es) (suc i) d lt b = below_at n es i d (omega arith) (second _ _ b)

  -- names at two places
  apart : (es : List (List ℕ × X)) → T (map.is_sorted text_cmp es) → (i j : ℕ) (d : List ℕ × X) → i < j → j < length es → text_cmp (get_or es i d).0 (get_or es j d).0 ≡ Less
  apart [] s i j d p q = absurd (omega arith)
  apart (e ∷ es) s i zero d p q = absurd (omega arith)
  apart (e ∷ es) s zero (suc j) d p q = below_at e.0 es j d (omega arith) (first _ _ s)
  apart (e ∷ es) s (suc i) (suc j) d p q = apart es (second _ _ s) i j d (omega arith) (omega arith)

  -- what a binary search needs
  rises : (es : List (List ℕ × X)) (n : List ℕ) → T (map.is_sorted text_cmp es) → IsNonDecreasingBy (λ e. ordering_index (text_cmp e.0 n)) es
  rises es n s = searchable_from_sorted text_total (λ e. e.0) es n (λ k d p q. ap is_lt (turned (get_or es k d).0 (get_or es (k + 1) d).0 Less (apart es s k (k + 1) d (omega arith) q)))

  find_at : (es : List (List ℕ × X)) (n : List ℕ) (i : ℕ) (d : List ℕ × X) → T (map.is_sorted text_cmp es) → i < length es → text_cmp (get_or es i d).0 n ≡ Equal → map.find text_cmp n es ≡ Some (get_or es i d).1
  find_at [] n i d s lt h = absurd (omega arith)
  find_at (e ∷ es) n zero d s lt h = ap (λ r. cond (is_eq r) (Some e.1) (map.find text_cmp n es)) (turned e.0 n Equal h)
  find_at (e ∷ es) n (suc i) d s lt h =
      let below : text_cmp e.0 n ≡ Less = subst (λ k. text_cmp e.0 k ≡ Less) (exact_bytes _ n h) (below_at e.0 es i d (omega arith) (first _ _ s)) in
      ap (λ r. cond (is_eq r) (Some e.1) (map.find text_cmp n es)) (turned e.0 n Less below) ∙ find_at es n i d (second _ _ s) (omega arith) h

  module _ (n : List ℕ) where
    find_gap : (es : List (List ℕ × X)) (i : ℕ) → i ≤ length es → ((k : ℕ) (d : List ℕ × X) → k < i → text_cmp (get_or es k d).0 n ≡ Less) → ((k : ℕ) (d : List ℕ × X) → i ≤ k → k < length es → text_cmp (get_or es k d).0 n ≡ Greater) → map.find text_cmp n es ≡ None
    find_gap [] i in_range low high = refl
    find_gap (e ∷ es) zero in_range low high =
        ap (λ r. cond (is_eq r) (Some e.1) (map.find text_cmp n es)) (turned e.0 n Greater (high 0 e (omega arith) (omega arith)))
        ∙ find_gap es 0 (omega arith) (λ k d lt. absurd (omega arith)) (λ k d ge lt. high (suc k) d (omega arith) (omega arith))
    find_gap (e ∷ es) (suc i) in_range low high =
        ap (λ r. cond (is_eq r) (Some e.1) (map.find text_cmp n es)) (turned e.0 n Less (low 0 e (omega arith)))
        ∙ find_gap es i (omega arith) (λ k d lt. low (suc k) d (omega arith)) (λ k d ge lt. high (suc k) d (omega arith) (omega arith))

    put_gap : (x : X) (es : List (List ℕ × X)) (i : ℕ) → i ≤ length es → ((k : ℕ) (d : List ℕ × X) → k < i → text_cmp (get_or es k d).0 n ≡ Less) → ((k : ℕ) (d : List ℕ × X) → i ≤ k → k < length es → text_cmp (get_or es k d).0 n ≡ Greater) → map.put text_cmp n x es ≡ insert es i (n, x)
    put_gap x [] zero in_range low high = refl
    put_gap x [] (suc i) in_range low high = absurd (omega arith)
    put_gap x (e ∷ es) zero in_range low high = rw (turned e.0 n Greater (high 0 e (omega arith) (omega arith))) refl
    put_gap x (e ∷ es) (suc i) in_range low high =
        rw (turned e.0 n Less (low 0 e (omega arith))) (ap (λ r. e ∷ r) (put_gap x es i (omega arith) (λ k d lt. low (suc k) d (omega arith)) (λ k d ge lt. high (suc k) d (omega arith) (omega arith))))

  -- what a binary search answers
  pub searched : (es : List (List ℕ × X)) (n : List ℕ) → T (map.is_sorted text_cmp es) → (r : Result ℕ ℕ) → IsSearchInRange r (length es) → IsBinarySearchResult (λ e. text_cmp e.0 n) es r → record { found : IfOk r (IsPlaceOf es n); absent : IfErr r (IsGapFor es n) }
  searched es n s (Ok i) range equal = record { found = record { in_range = range; found = λ e. find_at es n i e s range (equal e) }; absent = tt }
  searched es n s (Err i) range parted =
      let p = parted (rises es n s) in
      let low = λ (k : ℕ) (d : List ℕ × X) (lt : k < i). p.0 k d (omega arith) lt in
      let high = λ (k : ℕ) (d : List ℕ × X) (ge : i ≤ k) (lt : k < length es). p.1 k d ge lt in
      record { found = tt; absent = record { in_range = range; absent = find_gap n es i range low high; put = λ x. put_gap n x es i range low high } }

-- ---- tuples as entries

pub sorted_ascend : (xs : List (List ℕ × Datum)) → T (map.is_sorted text_cmp xs) → NamesAscend (attrs_of xs)
sorted_ascend [] s = tt
sorted_ascend (x ∷ []) s = (tt, tt)
sorted_ascend (x ∷ y ∷ ys) s = (less _ (first _ _ (first _ _ s)), sorted_ascend (y ∷ ys) (second _ _ s))

-- what is below the first of ascending names is below all
below_ascending : (n : List ℕ) (x : List ℕ × Datum) (xs : List (List ℕ × Datum)) → NamesAscend (attrs_of (x ∷ xs)) → text_cmp n x.0 ≡ Less → T (below_all text_cmp n (x ∷ xs))
below_ascending n x [] a h = both _ _ (subst (λ r. T (is_lt r)) (sym h) tt) tt
below_ascending n x (y ∷ ys) a h = both _ _ (subst (λ r. T (is_lt r)) (sym h) tt) (below_ascending n y ys a.1 (text_total.trans n x.0 y.0 h a.0))

pub ascend_sorted : (xs : List (List ℕ × Datum)) → NamesAscend (attrs_of xs) → T (map.is_sorted text_cmp xs)
ascend_sorted [] a = tt
ascend_sorted (x ∷ []) a = tt
ascend_sorted (x ∷ y ∷ ys) a = both _ _ (below_ascending x.0 y ys a.1 a.0) (ascend_sorted (y ∷ ys) a.1)

pub whole_ascend : (xs : List (List ℕ × Datum)) → IsWholeTuple (attrs_of xs) → NamesAscend (attrs_of xs)
whole_ascend [] w = tt
whole_ascend (x ∷ xs) w = (w.1, whole_ascend xs w.2)

-- an attribute is found as an entry is
pub attribute_found : (n : List ℕ) (xs : List (List ℕ × Datum)) → map.find text_cmp n xs ≡ attribute_of n (attrs_of xs)
attribute_found n [] = refl
attribute_found n (x ∷ xs) = ap (λ r. cond (eq_by_cmp text_cmp n x.0) (Some x.1) r) (attribute_found n xs)

-- ---- a heading as entries

-- es are the entries of h, seen through a read of the field
module _ (h : Header) (n : List ℕ) (es : List (List ℕ × Ty)) (i : ℕ) (fs : List (List ℕ × Ty)) (same : es ≡ fs) (s : T (map.is_sorted text_cmp fs)) (view : map.from_sorted fs ≡ h) where
  got : map.get h n ≡ map.find text_cmp n es
  got = map.get-entries h n ∙ ap (map.find text_cmp n) (entries_seen fs s view ∙ sym same)

  pub typed_at : IsPlaceOf es n i → (f : List ℕ × Ty) → f ≡ get_or fs i f → Some f.1 ≡ map.get h n
  typed_at at f is = ap (λ g. Some g.1) (is ∙ ap (λ xs. get_or xs i f) (sym same)) ∙ sym (at.found f) ∙ sym got

  pub typed_none : IsGapFor es n i → None ≡ map.get h n
  typed_none gap = sym gap.absent ∙ sym got

-- the same of a tuple
module _ (t : Attrs) (n : List ℕ) (es : List (List ℕ × Datum)) (i : ℕ) (xs : List (List ℕ × Datum)) (same : es ≡ xs) (view : attrs_of xs ≡ t) where
  held : attribute_of n t ≡ map.find text_cmp n es
  held = ap (attribute_of n) (sym view) ∙ sym (attribute_found n xs) ∙ ap (map.find text_cmp n) (sym same)

  pub valued_at : IsPlaceOf es n i → (x : List ℕ × Datum) → x ≡ get_or xs i x → Some x.1 ≡ attribute_of n t
  valued_at at x is = ap (λ g. Some g.1) (is ∙ ap (λ ys. get_or ys i x) (sym same)) ∙ sym (at.found x) ∙ sym held

  pub valued_none : IsGapFor es n i → None ≡ attribute_of n t
  valued_none gap = sym gap.absent ∙ sym held

-- ---- what an entry that is added makes of the map

-- es are the entries of m
module _ {X : Type 0} (m : map.FinMap text_cmp X) (n : List ℕ) (x : X) (i : ℕ) (es : List (List ℕ × X)) (s : T (map.is_sorted text_cmp es)) (view : map.from_sorted es ≡ m) where
  looked_up : map.get m n ≡ map.find text_cmp n es
  looked_up = map.get-entries m n ∙ ap (map.find text_cmp n) (entries_seen es s view)

  pub known : IsPlaceOf es n i → (e : List ℕ × X) → false ≡ not (map.contains_key m n)
  known at e = sym (ap (λ o. not (is_some o)) (looked_up ∙ at.found e))

  pub unknown : IsGapFor es n i → true ≡ not (map.contains_key m n)
  unknown gap = sym (ap (λ o. not (is_some o)) (looked_up ∙ gap.absent))

  put_entries : IsGapFor es n i → map.entries (map.insert m n x) ≡ insert es i (n, x)
  put_entries gap = map.entries-insert text_total m n x ∙ ap (map.put text_cmp n x) (entries_seen es s view) ∙ gap.put x

  pub still_sorted : IsGapFor es n i → T (map.is_sorted text_cmp (insert es i (n, x)))
  still_sorted gap = subst (λ fs. T (map.is_sorted text_cmp fs)) (put_entries gap) (map.entries_sorted (map.insert m n x))

  pub is_put : IsGapFor es n i → map.from_sorted (insert es i (n, x)) ≡ map.insert m n x
  is_put gap = map.same_entries_map _ _ (map.entries-from_sorted text_cmp (insert es i (n, x)) (still_sorted gap) ∙ sym (put_entries gap))
