-- A tuple in the place of another one.
use Rattle.std.proofs.Common.{◌≡◌, ℕ, Bool, true, IsTrue, zero, suc, ◌+◌, ◌-◌, ◌<◌, ◌≤◌, ◌⊎◌, inl, inr, List, [], ◌∷◌, ◌++◌, length, get_or, set, eq-or-lt_of_le, length-append, refl, sym, ap, ◌∙◌, subst, arith}
use Rattle.std.specs.declared.cmp.Ordering.{Ordering}
use Rattle.std.specs.declared.cmp.Ordering.TheVariants.{Less, Equal, Greater}
use Rattle.std.specs.Ordering.{is_lt, is_gt, ordering_reverse}
use Rattle.std.specs.List.{insert, remove}
use Rattle.std.specs.List.Sorted.{IsStrictlySortedBy}
use Rattle.std.specs.FinSet as finite
use Rattle.std.proofs.lemmas.List.{get_or_default}
use Rattle.std.proofs.lemmas.Map.Keys.{Less-from_sorted}
use Rattle.td_values.specs.Data.{Attrs}
use Rattle.td_values.specs.Order.{attrs_order}
use Rattle.td_values.specs.Proving.Total.{attrs_order_total, attrs_tied}
use Rattle.td_relations.specs.Sets.{TupleSet, tuple_set}
use Rattle.td_relations.specs.ForProofs.Places.{AreAbove, AreAboveFrom, AreBelow}
use Rattle.td_relations.proofs.Edits.{difference_nothing, less_one, more_one, union_nothing}
use Rattle.td_relations.proofs.Sorted.{body_insert, body_remove, sorted_insert, sorted_remove}

less : (o : Ordering) → is_lt o ≡ true → o ≡ Less
less Less e = refl
less Equal e = cc
less Greater e = cc

greater : (o : Ordering) → is_gt o ≡ true → o ≡ Greater
greater Less e = cc
greater Equal e = cc
greater Greater e = refl

-- what is above the one before the place is above all before it, and the other way round
module _ (ts : List Attrs) (at : ℕ) (t x : Attrs) (up : IsStrictlySortedBy attrs_order ts) (b : Bool) where
  pub above_all : at ≤ length ts → 0 < at → x ≡ get_or ts (at - 1) x → b ≡ is_lt (attrs_order x t) → IsTrue b → AreBelow ts at t
  above_all inside some is e is_so k d low = by (eq-or-lt_of_le (let le : k ≤ at - 1 = omega arith in le))
    where
      here : attrs_order (get_or ts (at - 1) d) t ≡ Less
      here = ap (λ y. attrs_order y t) (get_or_default ts (at - 1) d x (omega arith) ∙ sym is) ∙ less (attrs_order x t) (sym e ∙ is_so)

      by : (k ≡ at - 1) ⊎ (k < at - 1) → attrs_order (get_or ts k d) t ≡ Less
      by (inl q) = ap (λ n. attrs_order (get_or ts n d) t) q ∙ here
      by (inr l) = attrs_order_total.trans (get_or ts k d) (get_or ts (at - 1) d) t (Less-from_sorted attrs_order ts k (at - 1) d up l (omega arith)) here

  pub below_from : at < length ts → x ≡ get_or ts at x → b ≡ is_gt (attrs_order x t) → IsTrue b → AreAboveFrom ts at t
  below_from inside is e is_so k d from low = by (eq-or-lt_of_le from)
    where
      here : attrs_order t (get_or ts at d) ≡ Less
      here = attrs_order_total.antisymm t (get_or ts at d) ∙ ap ordering_reverse (ap (λ y. attrs_order y t) (get_or_default ts at d x inside ∙ sym is) ∙ greater (attrs_order x t) (sym e ∙ is_so))

      there : (n : ℕ) → attrs_order t (get_or ts n d) ≡ Less → attrs_order (get_or ts n d) t ≡ Greater
      there n l = attrs_order_total.antisymm (get_or ts n d) t ∙ ap ordering_reverse l

      by : (at ≡ k) ⊎ (at < k) → attrs_order (get_or ts k d) t ≡ Greater
      by (inl q) = there k (ap (λ n. attrs_order t (get_or ts n d)) (sym q) ∙ here)
      by (inr l) = there k (attrs_order_total.trans t (get_or ts at d) (get_or ts k d) here (Less-from_sorted attrs_order ts at k d up l low))

pub below_all : (ts : List Attrs) (at : ℕ) (t x : Attrs) → IsStrictlySortedBy attrs_order ts → (b : Bool) → at + 1 < length ts → x ≡ get_or ts (at + 1) x → b ≡ is_gt (attrs_order x t) → IsTrue b → AreAbove ts at t
below_all ts at t x up b inside is e is_so k d behind low = below_from ts (at + 1) t x up b inside is e is_so k d (omega arith) low

-- ---- to write a tuple over another one is to take that out and to put this one in
written_over : (ts : List Attrs) (at : ℕ) (t : Attrs) → at < length ts → set ts at t ≡ insert (remove ts at) at t
written_over [] at t lt = absurd (omega arith)
written_over (x ∷ ts) zero t lt = refl
written_over (x ∷ ts) (suc at) t lt = ap (λ l. x ∷ l) (written_over ts at t (omega arith))

length_without : (ts : List Attrs) (at : ℕ) → at < length ts → length (remove ts at) + 1 ≡ length ts
length_without [] at lt = absurd (omega arith)
length_without (x ∷ ts) zero lt = omega arith
length_without (x ∷ ts) (suc at) lt = omega (arith, length_without ts at (omega arith))

kept_before : (ts : List Attrs) (at k : ℕ) (d : Attrs) → k < at → get_or (remove ts at) k d ≡ get_or ts k d
kept_before [] zero k d lt = absurd (omega arith)
kept_before [] (suc at) k d lt = refl
kept_before (x ∷ ts) zero k d lt = absurd (omega arith)
kept_before (x ∷ ts) (suc at) zero d lt = refl
kept_before (x ∷ ts) (suc at) (suc k) d lt = kept_before ts at k d (omega arith)

moved_behind : (ts : List Attrs) (at k : ℕ) (d : Attrs) → at ≤ k → at < length ts → get_or (remove ts at) k d ≡ get_or ts (suc k) d
moved_behind [] at k d le lt = absurd (omega arith)
moved_behind (x ∷ ts) zero k d le lt = refl
moved_behind (x ∷ ts) (suc at) zero d le lt = absurd (omega arith)
moved_behind (x ∷ ts) (suc at) (suc k) d le lt = moved_behind ts at k d (omega arith) (omega arith)

module _ (ts : List Attrs) (at : ℕ) (gone t : Attrs) (up : IsStrictlySortedBy attrs_order ts) (inside : at < length ts) where
  pub over_ascends : AreBelow ts at t → AreAbove ts at t → IsStrictlySortedBy attrs_order (set ts at t)
  over_ascends low high =
      subst (IsStrictlySortedBy attrs_order) (sym (written_over ts at t inside))
      (sorted_insert attrs_order_total (remove ts at) at t (sorted_remove attrs_order_total ts at up) (omega (arith, length_without ts at inside))
      (λ k d lt. ap (λ y. attrs_order y t) (kept_before ts at k d lt) ∙ low k d lt)
      (λ k d ge lt. ap (λ y. attrs_order y t) (moved_behind ts at k d ge inside) ∙ high (suc k) d (omega arith) (omega (arith, length_without ts at inside))))

  pub over_members : get_or ts at gone ≡ gone → tuple_set (set ts at t) ≡ finite.insert (finite.remove (tuple_set ts) gone) t
  over_members is =
      ap tuple_set (written_over ts at t inside) ∙ body_insert attrs_order_total attrs_tied (remove ts at) at t
      ∙ ap (λ s. finite.insert s t) (body_remove attrs_order_total attrs_tied ts at gone up inside is)

-- ---- one tuple out and one in, as sets
pub one_for_one : (s : TupleSet) (gone t : Attrs) → finite.insert (finite.remove s gone) t ≡ finite.union (finite.difference s (tuple_set (gone ∷ []))) (tuple_set (t ∷ []))
one_for_one s gone t =
    let out : finite.remove s gone ≡ finite.difference s (tuple_set (gone ∷ [])) = less_one s s (gone ∷ []) 0 gone (omega arith) refl (difference_nothing s) in
    let left = finite.difference s (tuple_set (gone ∷ [])) in
    ap (λ w. finite.insert w t) out ∙ more_one left left [] t (union_nothing left)

pub only_one : (ts : List Attrs) (t : Attrs) → length ts ≡ 1 → t ≡ get_or ts 0 t → ts ≡ t ∷ []
only_one [] t one is = absurd (omega (arith, one))
only_one (x ∷ []) t one is = ap (λ y. y ∷ []) (sym is)
only_one (x ∷ y ∷ ts) t one is = absurd (omega (arith, one))

pub last_of_one : (ts rest : List Attrs) (t : Attrs) → length ts ≡ 1 → ts ≡ rest ++ t ∷ [] → ts ≡ t ∷ []
last_of_one ts [] t one is = is
last_of_one ts (x ∷ rest) t one is = absurd (omega (arith, one, ap length is, length-append rest (t ∷ [])))
