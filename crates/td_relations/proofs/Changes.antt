-- Changes of relations, applied.
use Rattle.std.proofs.Common.{◌≡◌, inl, inr, List, Bool, true, false, not, ◌&&◌, ◌||◌, refl, sym, ap, ◌∙◌}
use Rattle.std.specs.FinSet as set
use Rattle.std.specs.List.Sorted.{IsStrictlySortedBy}
use Rattle.td_values.specs.Data.{Attrs}
use Rattle.td_values.specs.Headings.{Header}
use Rattle.td_values.specs.Order.{attrs_order}
use Rattle.td_values.specs.Rows.{RowsData, AreRows}
use Rattle.td_values.specs.Proving.Total.{attrs_order_total, attrs_tied}
use Rattle.td_relations.specs.Sets.{TupleSet, tuple_set, body, IsRelation}
use Rattle.td_relations.proofs.Edits.{difference_nothing, union_nothing}
use Rattle.td_relations.proofs.Fits.{Fits}
use Rattle.td_relations.proofs.Members.{relation_is, either, holds_of_member, holds_of_all}

-- what is in the old one and not in 'old without new', or in 'new without old', is in the new one
change : (a b : Bool) → ((a && not (a && not b)) || (b && not a)) ≡ b
change true true = refl
change true false = refl
change false true = refl
change false false = refl

pub changed : (s t : TupleSet) → set.union (set.difference s (set.difference s t)) (set.difference t s) ≡ t
changed s t = set.same_set attrs_order_total attrs_tied _ t (λ q.
    set.contains-union attrs_order_total (set.difference s (set.difference s t)) (set.difference t s) q
    ∙ (λ i. (set.contains-difference attrs_order_total s (set.difference s t) q ∙ ap (λ b. set.contains s q && not b) (set.contains-difference attrs_order_total s t q)) i || set.contains-difference attrs_order_total t s q i)
    ∙ change (set.contains s q) (set.contains t q))

pub leads_to : (old new result out into : RowsData) → old.heading ≡ new.heading → IsStrictlySortedBy attrs_order new.tuples → (h k : Header) → IsRelation h (set.difference (body old) (body new)) out → IsRelation k (set.difference (body new) (body old)) into → IsRelation old.heading (set.union (set.difference (body old) (body out)) (body into)) result → result ≡ new
leads_to old new result out into same up h k gone come is =
    let members : body result ≡ body new = is.members ∙ (λ i. set.union (set.difference (body old) (gone.members i)) (come.members i)) ∙ changed (body old) (body new) in
    let there : IsRelation new.heading (body new) new = record { heading = refl; members = refl; ascending = up } in
    let here : IsRelation new.heading (body new) result = record { heading = is.heading ∙ same; members = members; ascending = is.ascending } in
    relation_is new.heading (body new) result here ∙ sym (relation_is new.heading (body new) new there)

without_itself : (b : Bool) → (b && not b) ≡ false
without_itself true = refl
without_itself false = refl

pub none_between : (r s : RowsData) → r ≡ s → set.difference (body r) (body s) ≡ set.empty
none_between r s e = set.same_set attrs_order_total attrs_tied _ _ (λ q.
    set.contains-difference attrs_order_total (body r) (body s) q ∙ ap (λ (w : RowsData). set.contains (body r) q && not (set.contains (body w) q)) (sym e) ∙ without_itself (set.contains (body r) q) ∙ sym (set.contains-empty attrs_order q))

-- where nothing goes and nothing comes, it is the same relation
pub same_by_nothing : (old new out into : RowsData) → old.heading ≡ new.heading → IsStrictlySortedBy attrs_order old.tuples → IsStrictlySortedBy attrs_order new.tuples → (h k : Header) → IsRelation h (set.difference (body old) (body new)) out → IsRelation k (set.difference (body new) (body old)) into → body out ≡ set.empty → body into ≡ set.empty → old ≡ new
same_by_nothing old new out into same low up h k gone come no_out no_into =
    let stays : body old ≡ set.union (set.difference (body old) (body out)) (body into) = difference_nothing (body old) ∙ union_nothing (set.difference (body old) set.empty) ∙ (λ i. set.union (set.difference (body old) (sym no_out i)) (sym no_into i)) in
    leads_to old new old out into same up h k gone come (record { heading = refl; members = stays; ascending = low })

kept_from : (a b : Bool) → (a && b) ≡ true → a ≡ true
kept_from true b e = refl
kept_from false b e = e

-- what is left of old without out, with into, fits where the tuples of old and into do
pub rows_of_change : (h : Header) (old out into n : List Attrs) → AreRows h old → AreRows h into → IsStrictlySortedBy attrs_order n → tuple_set n ≡ set.union (set.difference (tuple_set old) (tuple_set out)) (tuple_set into) → AreRows h n
rows_of_change h old out into n a b up e = record {
  fit = holds_of_all (Fits h) n (λ t has.
      let in_one = sym (ap (λ w. set.contains w t) e ∙ set.contains-union attrs_order_total (set.difference (tuple_set old) (tuple_set out)) (tuple_set into) t) ∙ has in
      elim (either (set.contains (set.difference (tuple_set old) (tuple_set out)) t) (set.contains (tuple_set into) t) in_one) [
        | inl new ↦ holds_of_member (Fits h) into t b.fit new
        | inr kept ↦ holds_of_member (Fits h) old t a.fit (kept_from _ _ (sym (set.contains-difference attrs_order_total (tuple_set old) (tuple_set out) t) ∙ kept))
      ]);
  ascending = up;
}
