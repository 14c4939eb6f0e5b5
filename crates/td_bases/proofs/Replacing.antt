-- What becomes of an index where one tuple comes in the place of another one.
use Rattle.std.proofs.Common.{◌≡◌, ℕ, Bool, true, false, not, ◌&&◌, ◌||◌, List, [], ◌∷◌, get_or, length, refl, sym, ap, ◌∙◌, subst, true≢false, arith}
use Rattle.std.specs.FinSet as set
use Rattle.std.specs.List.Sorted.{IsStrictlySortedBy}
use Rattle.std.specs.Ordering.{eq_by_cmp}
use Rattle.std.proofs.lemmas.List.Sorted.{IsPermutation-refl, IsPermutation-sym}
use Rattle.td_values.specs.Data.{Attrs}
use Rattle.td_values.specs.Order.{attrs_order}
use Rattle.td_values.specs.Proving.Total.{attrs_order_total, attrs_tied}
use Rattle.td_values.specs.Rows.{RowsData}
use Rattle.td_relations.specs.Deltas.{IsExchanged}
use Rattle.td_relations.specs.Sets.{Has, body, relation_of, tuple_set}
use Rattle.td_relations.proofs.Members.{relation_of_is}
use Rattle.td_algebra.specs.KeyIndexes.{HasOneMore, HasOther, IsReplaceable, KeyIndexData}
use Rattle.td_algebra.proofs.KeyLaws.{inserted, removed}
use Rattle.td_algebra.proofs.Lists.{item_in}
use Rattle.td_algebra.proofs.Pairs.{entry_of}
use Rattle.td_algebra.proofs.PlacedParts.{same_key}
use Rattle.td_bases.specs.ForProofs.Keyed.{IsIndexOf}

-- whether it is in r, is the one that is gone, and is the one that comes
one_for_other : (r g m : Bool) → (g ≡ true → m ≡ true → ⊥) → ((r && not (g || false)) || (m || false)) ≡ (not g && (m || r))
one_for_other true true true apart = absurd (apart refl refl)
one_for_other false true true apart = absurd (apart refl refl)
one_for_other true true false apart = refl
one_for_other false true false apart = refl
one_for_other true false true apart = refl
one_for_other true false false apart = refl
one_for_other false false true apart = refl
one_for_other false false false apart = refl

module _ (r o i n : RowsData) (gone more : Attrs) (only_gone : o.tuples ≡ gone ∷ []) (only_more : i.tuples ≡ more ∷ []) (fresh : set.contains (body r) more ≡ false) (there : Has r gone) (is : IsExchanged r o i n) where
  apart : (q : Attrs) → eq_by_cmp attrs_order q gone ≡ true → eq_by_cmp attrs_order q more ≡ true → ⊥
  apart q g m = true≢false (sym (subst (Has r) (sym (same_key q gone g) ∙ same_key q more m) there) ∙ fresh)

  members : body n ≡ set.remove (set.insert (body r) more) gone
  members = set.same_set attrs_order_total attrs_tied _ _ (λ q.
      ap (λ s. set.contains s q) is.members
      ∙ set.contains-union attrs_order_total (set.difference (body r) (body o)) (body i) q
      ∙ (λ j. set.contains-difference attrs_order_total (body r) (body o) q j || set.contains (tuple_set (only_more j)) q)
      ∙ (λ j. (set.contains (body r) q && not (set.contains (tuple_set (only_gone j)) q)) || set.contains-from_list attrs_order_total (more ∷ []) q j)
      ∙ (λ j. (set.contains (body r) q && not (set.contains-from_list attrs_order_total (gone ∷ []) q j)) || (eq_by_cmp attrs_order q more || false))
      ∙ one_for_other (set.contains (body r) q) (eq_by_cmp attrs_order q gone) (eq_by_cmp attrs_order q more) (apart q)
      ∙ sym (set.contains-remove attrs_order_total (set.insert (body r) more) gone q ∙ ap (λ b. not (eq_by_cmp attrs_order q gone) && b) (set.contains-insert attrs_order_total (body r) more q)))

  pub replaced : (x y : KeyIndexData) → IsStrictlySortedBy attrs_order r.tuples → IsIndexOf r x → HasOther gone more x y → IsIndexOf n y
  replaced x y up index other =
      let m = relation_of r.heading (set.insert (body r) more) in
      let mid = relation_of_is r.heading (set.insert (body r) more) in
      let z : KeyIndexData = record { heading = x.heading; key = x.key; tuples = more ∷ x.tuples } in
      let one : HasOneMore more x z = record { heading = refl; key = refl; tuples = IsPermutation-refl (more ∷ x.tuples) } in
      let first = inserted x.key r m more x z up index (λ has. true≢false (sym has ∙ fresh)) mid one in
      let still : Has m gone = ap (λ s. set.contains s gone) mid.members ∙ set.contains-insert attrs_order_total (body r) more gone ∙ ap (λ b. eq_by_cmp attrs_order gone more || b) there ∙ or_true (eq_by_cmp attrs_order gone more) in
      let less : HasOneMore gone y z = record { heading = sym other.heading; key = sym other.key; tuples = IsPermutation-sym (more ∷ x.tuples) (gone ∷ y.tuples) other.tuples } in
      let last = removed x.key m n gone z y mid.ascending first still (record {
        heading = is.heading ∙ sym mid.heading;
        members = members ∙ ap (λ s. set.remove s gone) (sym mid.members);
        ascending = is.ascending;
      }) less in
      record { heading = last.heading; key = refl; tuples = last.tuples }
    where
      or_true : (b : Bool) → (b || true) ≡ true
      or_true true = refl
      or_true false = refl

pub was_there : (r : RowsData) (x : KeyIndexData) (gone more : Attrs) (at : ℕ) → IsIndexOf r x → IsReplaceable gone more x at → Has r gone
was_there r x gone more at index place = entry_of r x.tuples index.tuples gone (item_in x.tuples at gone place.in_range (sym place.stands))

pub only_index : (xs : List KeyIndexData) (x : KeyIndexData) → length xs ≡ 1 → x ≡ get_or xs 0 x → xs ≡ x ∷ []
only_index [] x many at = absurd (omega (arith, many))
only_index (y ∷ []) x many at = ap (λ z. z ∷ []) (sym at)
only_index (y ∷ z ∷ ys) x many at = absurd (omega (arith, many))
