-- Parts tell tuples apart where none of an index has the values of the one before it.
use Rattle.std.proofs.Common.{◌≡◌, ◌↔◌, ℕ, zero, suc, ◌+◌, ◌-◌, ◌<◌, ◌≤◌, Bool, true, false, not, IsTrue, ◌||◌, cond, List, [], ◌∷◌, length, get_or, refl, sym, ap, ◌∙◌, subst, true≢false, arith}
use Rattle.std.specs.declared.cmp.Ordering.{Ordering}
use Rattle.std.specs.declared.cmp.Ordering.TheVariants.{Less, Equal, Greater}
use Rattle.std.specs.List.{All, list_any, sum_by}
use Rattle.std.specs.List.Sorted.{IsSortedByKey, IsStrictlySortedBy}
use Rattle.std.specs.Ordering.{eq_by_cmp, ordering_index}
use Rattle.std.specs.Cmp.{tied_itself}
use Rattle.std.proofs.lemmas.List.Sorted.{searchable_from_sorted, sum_by-IsPermutation}
use Rattle.std.proofs.lemmas.List.Sums.{sum_by-cons}
use Rattle.td_values.specs.Data.{Attrs, no_attrs}
use Rattle.td_values.specs.Order.{attrs_order}
use Rattle.td_values.specs.Proving.Total.{attrs_order_total, attrs_tied}
use Rattle.td_values.specs.Rows.{RowsData, AreRows}
use Rattle.td_values.specs.Headings.{Header}
use Rattle.td_relations.specs.Sets.{Has}
use Rattle.td_relations.proofs.Sorted.{none_above}
use Rattle.td_tuples.specs.Parts.{cut, columns_in, is_in, names_of}
use Rattle.td_tuples.proofs.ByName.{part_by_columns}
use Rattle.td_algebra.specs.declared.index.TupleIndex.{TupleIndex}
use Rattle.td_algebra.specs.ForProofs.Places.{values_at, values_of}
use Rattle.td_algebra.specs.ForProofs.Index.{IsIndex, Repeat}
use Rattle.td_algebra.specs.Keys.{TellApart}
use Rattle.td_algebra.proofs.KeyGroups.{by_parts}
use Rattle.td_algebra.proofs.Lists.{all_in, in_contains, item_in}
use Rattle.td_algebra.proofs.Made.{has_fits}
use Rattle.td_algebra.proofs.Pairs.{entry_of, of_entry}
use Rattle.td_algebra.proofs.PlacedParts.{itself, same_key}
use Rattle.td_algebra.proofs.Runs.{same_at}

-- ---- how often a tuple is in a list
abbrev pub one_of : Attrs → Attrs → ℕ
one_of t u = cond (eq_by_cmp attrs_order t u) 1 0

neither : (a b : Bool) → (a || b) ≡ false → (a ≡ false) × (b ≡ false)
neither true b h = absurd (true≢false h)
neither false b h = (refl, h)

none_there : (t : Attrs) (us : List Attrs) → list_any (eq_by_cmp attrs_order t) us ≡ false → sum_by (one_of t) us ≡ 0
none_there t [] h = refl
none_there t (u ∷ us) h =
    let (here, behind) = neither (eq_by_cmp attrs_order t u) (list_any (eq_by_cmp attrs_order t) us) h in
    sum_by-cons (one_of t) u us ∙ (λ i. cond (here i) 1 0 + none_there t us behind i)

-- of tuples that strictly ascend each is there once at most
once : (t : Attrs) (us : List Attrs) → IsStrictlySortedBy attrs_order us → sum_by (one_of t) us ≤ 1
unfolding IsStrictlySortedBy
once t [] sorted = omega arith
once t (u ∷ us) sorted = by (eq_by_cmp attrs_order t u) refl (once t us sorted.1)
  where
    by : (b : Bool) → eq_by_cmp attrs_order t u ≡ b → sum_by (one_of t) us ≤ 1 → sum_by (one_of t) (u ∷ us) ≤ 1
    by true e rest =
        let none = none_there t us (subst (λ w. list_any (eq_by_cmp attrs_order w) us ≡ false) (sym (same_key t u e)) (none_above attrs_order_total u us sorted.0)) in
        let whole = sum_by-cons (one_of t) u us ∙ ap (λ b. cond b 1 0 + sum_by (one_of t) us) e in
        omega (arith, whole, none)
    by false e rest =
        let whole = sum_by-cons (one_of t) u us ∙ ap (λ b. cond b 1 0 + sum_by (one_of t) us) e in
        omega (arith, whole, rest)

-- two places count both
two_there : (f : Attrs → ℕ) (us : List Attrs) (i : ℕ) (d : Attrs) → i + 1 < length us → f (get_or us i d) + f (get_or us (suc i) d) ≤ sum_by f us
two_there f [] i d lt = absurd (omega arith)
two_there f (t ∷ []) i d lt = absurd (omega arith)
two_there f (t ∷ u ∷ us) zero d lt = let whole = sum_by-cons f t (u ∷ us) in let rest = sum_by-cons f u us in omega (arith, whole, rest)
two_there f (t ∷ u ∷ us) (suc i) d lt = let whole = sum_by-cons f t (u ∷ us) in let rest = two_there f (u ∷ us) i d (omega arith) in omega (arith, whole, rest)

-- ---- an index in which its own tuples are sought
tie_index : (o : Ordering) → ordering_index o ≡ 1 → o ≡ Equal
tie_index Less e = absurd (omega (arith, e))
tie_index Equal e = refl
tie_index Greater e = absurd (omega (arith, e))

module _ (r : RowsData) (ns : List (List ℕ)) (x : TupleIndex) (index : IsIndex r ns r ns x) where
  -- one that repeats the values before it is another tuple with its part
  pub repeats_share : Repeat x.places.items x.tuples.items → TellApart ns r → ⊥
  repeats_share again apart =
      let us = x.tuples.items in
      let ps = x.places.items in
      let i = again.0 in
      let within = again.1 in
      let later = again.2.0 in
      let s = get_or us (i - 1) no_attrs in
      let t = get_or us i no_attrs in
      let s_in = item_in us (i - 1) s (omega (arith, within)) (same_at us (i - 1) no_attrs s (omega (arith, within))) in
      let t_in = item_in us i t within (same_at us i no_attrs t within) in
      let P : Attrs → Type 0 = λ s. All (λ t. values_at ps s ≡ values_at ps t → cut ns s ≡ cut ns t) us in
      let part = all_in (λ t. values_at ps s ≡ values_at ps t → cut ns s ≡ cut ns t) us (all_in P us (by_parts r ns x index).alike s s_in) t t_in (again.2.1 no_attrs) in
      let one : s ≡ t = apart s t (entry_of r us index.entries s s_in) (entry_of r us index.entries t t_in) part in
      let first : one_of t s ≡ 1 = ap (λ b. cond b 1 0) (ap (eq_by_cmp attrs_order t) one ∙ itself t) in
      let second : one_of t t ≡ 1 = ap (λ b. cond b 1 0) (itself t) in
      let j : suc (i - 1) ≡ i = omega (arith, later) in
      let both = two_there (one_of t) us (i - 1) no_attrs (omega (arith, later, within)) in
      let both_here : one_of t s + one_of t t ≤ sum_by (one_of t) us = subst (λ k. one_of t s + one_of t (get_or us k no_attrs) ≤ sum_by (one_of t) us) j both in
      let moved = sum_by-IsPermutation (one_of t) r.tuples us index.entries in
      let most = once t r.tuples index.rows.ascending in
      absurd (omega (arith, first, second, both_here, moved, most))

  module _ (sorted : IsSortedByKey (values_at x.places.items) attrs_order x.tuples.items) (none : Repeat x.places.items x.tuples.items → ⊥) where
    -- two places with the same values are one
    not_before : (i j : ℕ) (v : Attrs) → i < j → j < length x.tuples.items → values_at x.places.items (get_or x.tuples.items i no_attrs) ≡ v → values_at x.places.items (get_or x.tuples.items j no_attrs) ≡ v → ⊥
    not_before i j v lt within e f =
        let us = x.tuples.items in
        let ps = x.places.items in
        let d = no_attrs in
        let ranks = searchable_from_sorted attrs_order_total (values_at ps) us v sorted in
        let low = ranks i (suc i) d (omega arith) (omega (arith, lt, within)) in
        let high = ranks (suc i) j d (omega (arith, lt)) within in
        let first : ordering_index (attrs_order (values_at ps (get_or us i d)) v) ≡ 1 = ap ordering_index (ap (λ w. attrs_order w v) e ∙ tied_itself attrs_order_total v) in
        let last : ordering_index (attrs_order (values_at ps (get_or us j d)) v) ≡ 1 = ap ordering_index (ap (λ w. attrs_order w v) f ∙ tied_itself attrs_order_total v) in
        let between : values_at ps (get_or us (suc i) d) ≡ v = attrs_tied _ _ (tie_index _ (omega (arith, low, high, first, last))) in
        let back : suc i - 1 ≡ i = omega arith in
        none (
          suc i,
          omega (arith, lt, within),
          (omega arith, λ t. ap (λ k. values_at ps (get_or us k t)) back ∙ ap (values_at ps) (same_at us i t d (omega (arith, lt, within))) ∙ e ∙ sym between ∙ ap (values_at ps) (same_at us (suc i) d t (omega (arith, lt, within)))),
        )

    pub apart_without : TellApart ns r
    apart_without t u has_t has_u same =
        let us = x.tuples.items in
        let ps = x.places.items in
        let d = no_attrs in
        let at_t = in_contains us t (of_entry r us index.entries t has_t) in
        let at_u = in_contains us u (of_entry r us index.entries u has_u) in
        let i = at_t.0 in
        let j = at_u.0 in
        let is_t : get_or us i d ≡ t = same_at us i d t at_t.1 ∙ at_t.2 in
        let is_u : get_or us j d ≡ u = same_at us j d u at_u.1 ∙ at_u.2 in
        let values : values_at ps t ≡ values_at ps u = index.places t (has_fits r index.rows t has_t) ∙ ap values_of same ∙ sym (index.places u (has_fits r index.rows u has_u)) in
        let v = values_at ps u in
        let e : values_at ps (get_or us i d) ≡ v = ap (values_at ps) is_t ∙ values in
        let f : values_at ps (get_or us j d) ≡ v = ap (values_at ps) is_u in
        let place : i ≡ j = one_place i j (not_before i j v) (not_before j i v) at_t.1 at_u.1 e f in
        sym is_t ∙ ap (λ k. get_or us k d) place ∙ is_u
      where
        one_place : {E F : Type 0} (i j : ℕ) → (i < j → j < length x.tuples.items → E → F → ⊥) → (j < i → i < length x.tuples.items → F → E → ⊥) → i < length x.tuples.items → j < length x.tuples.items → E → F → i ≡ j
        one_place i j p q a b e f = by_sum (j - i) (i - j) refl refl
          where
            by_sum : (n m : ℕ) → j - i ≡ n → i - j ≡ m → i ≡ j
            by_sum zero zero g h = omega (arith, g, h)
            by_sum (suc n) m g h = absurd (p (omega (arith, g)) b e f)
            by_sum zero (suc m) g h = absurd (q (omega (arith, h)) a f e)

-- ---- as the relation's own names say it
pub by_columns : (names : List (List ℕ)) (r : RowsData) (rows : AreRows r.heading r.tuples) (h : Header) → h ≡ columns_in names r.heading → (t : Attrs) → Has r t → cut (names_of h) t ≡ cut names t
by_columns names r rows h e t has = ap (λ w. cut (names_of w) t) e ∙ part_by_columns (is_in names) r.heading t (has_fits r rows t has)

pub tells : (names : List (List ℕ)) (r : RowsData) (h : Header) (x : TupleIndex) (b : Bool) → h ≡ columns_in names r.heading → IsIndex r (names_of h) r (names_of h) x → IsSortedByKey (values_at x.places.items) attrs_order x.tuples.items → IsTrue b ↔ Repeat x.places.items x.tuples.items → IsTrue (not b) ↔ TellApart names r
tells names r h x b e index sorted repeats = by b repeats
  where
    part : (t : Attrs) → Has r t → cut (names_of h) t ≡ cut names t
    part = by_columns names r index.rows h e

    by : (b : Bool) → IsTrue b ↔ Repeat x.places.items x.tuples.items → IsTrue (not b) ↔ TellApart names r
    by true says = (
      λ no. absurd (true≢false (sym no)),
      λ apart. absurd (repeats_share r (names_of h) x index (says.0 refl) (λ t u p q same. apart t u p q (sym (part t p) ∙ same ∙ part u q))),
    )
    by false says = (
      λ yes t u p q same. apart_without r (names_of h) x index sorted (λ again. true≢false (sym (says.1 again))) t u p q (part t p ∙ same ∙ sym (part u q)),
      λ apart. refl,
    )

-- what none before n has, and n has not, none up to n has
pub none_more : (P : ℕ → Type 0) (n : ℕ) → ((i : ℕ) → i < n → P i → ⊥) → (P n → ⊥) → (i : ℕ) → i < n + 1 → P i → ⊥
none_more P n before here i lt p = by (n - i) refl
  where
    by : (k : ℕ) → n - i ≡ k → ⊥
    by zero h = here (subst P (omega (arith, lt, h)) p)
    by (suc k) h = before i (omega (arith, h)) p
