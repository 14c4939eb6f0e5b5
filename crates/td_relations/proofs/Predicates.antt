-- Relations by what holds of their tuples: for the crates above.
use Rattle.std.proofs.Common.{◌≡◌, ◌↔◌, ◌⊎◌, inl, inr, Bool, true, false, not, ◌&&◌, ◌||◌, List, refl, sym, ap, ◌∙◌, true≢false}
use Rattle.std.specs.List.{Contains}
use Rattle.std.specs.FinSet as set
use Rattle.td_values.specs.Data.{Attrs}
use Rattle.td_values.specs.Headings.{Header}
use Rattle.td_values.specs.Rows.{RowsData}
use Rattle.td_values.specs.Proving.Total.{attrs_order_total, attrs_tied}
use Rattle.td_relations.specs.Sets.{TupleSet, body, Has, IsRelation, IsRelationOf}
use Rattle.td_relations.proofs.Sorted.{same_sorted}
use Rattle.td_relations.proofs.Members.{contains_listed}

-- ---- from the set to the predicate
-- a relation of a set is that of P where the set's members are those of P
pub by_members : (h : Header) (s : TupleSet) (P : Attrs → Type 0) (r : RowsData) → IsRelation h s r → ((t : Attrs) → (set.contains s t ≡ true) ↔ P t) → IsRelationOf h P r
by_members h s P r is same = record {
  heading = is.heading;
  only = λ t has. (same t).0 (sym (ap (λ w. set.contains w t) is.members) ∙ has);
  all = λ t p. ap (λ w. set.contains w t) is.members ∙ (same t).1 p;
  ascending = is.ascending;
}

-- a relation of a list is that of P where the list's tuples are those of P
pub by_list : (h : Header) (xs : List Attrs) (P : Attrs → Type 0) (r : RowsData) → IsRelation h (set.from_list xs) r → ((t : Attrs) → Contains xs t ↔ P t) → IsRelationOf h P r
by_list h xs P r is same = by_members h (set.from_list xs) P r is (λ t. (λ e. (same t).0 ((contains_listed xs t).0 e), λ p. (contains_listed xs t).1 ((same t).1 p)))

pub of_set : (h : Header) (s : TupleSet) (r : RowsData) → IsRelation h s r → IsRelationOf h (λ t. set.contains s t ≡ true) r
of_set h s r is = by_members h s (λ t. set.contains s t ≡ true) r is (λ t. (λ e. e, λ e. e))

-- a relation of one predicate is that of another one that holds of the same tuples
pub by_predicate : (h : Header) (P Q : Attrs → Type 0) (r : RowsData) → IsRelationOf h P r → ((t : Attrs) → P t ↔ Q t) → IsRelationOf h Q r
by_predicate h P Q r is same = record { heading = is.heading; only = λ t has. (same t).0 (is.only t has); all = λ t q. is.all t ((same t).1 q); ascending = is.ascending }

-- ---- back
iff_same : (a b : Bool) → (a ≡ true → b ≡ true) → (b ≡ true → a ≡ true) → a ≡ b
iff_same true b f g = sym (f refl)
iff_same false true f g = g refl
iff_same false false f g = refl

pub set_of : (h : Header) (s : TupleSet) (r : RowsData) → IsRelationOf h (λ t. set.contains s t ≡ true) r → IsRelation h s r
set_of h s r is = record {
  heading = is.heading;
  members = set.same_set attrs_order_total attrs_tied (body r) s (λ q. iff_same (set.contains (body r) q) (set.contains s q) (is.only q) (is.all q));
  ascending = is.ascending;
}

-- a heading and a predicate make one relation at most
pub one_relation : (h : Header) (P : Attrs → Type 0) (r s : RowsData) → IsRelationOf h P r → IsRelationOf h P s → r ≡ s
one_relation h P r s a b =
    let tuples : r.tuples ≡ s.tuples = same_sorted attrs_order_total attrs_tied r.tuples s.tuples a.ascending b.ascending (λ q.
    sym (set.contains-from_list attrs_order_total r.tuples q)
    ∙ iff_same (set.contains (body r) q) (set.contains (body s) q) (λ m. b.all q (a.only q m)) (λ m. a.all q (b.only q m))
    ∙ set.contains-from_list attrs_order_total s.tuples q) in
    let heading : r.heading ≡ s.heading = a.heading ∙ sym b.heading in
    λ i. record { heading = heading i; tuples = tuples i }

-- ---- unions, intersections, differences
or_iff : (a b : Bool) → ((a || b) ≡ true) ↔ ((a ≡ true) ⊎ (b ≡ true))
or_iff true b = (λ e. inl refl, λ e. refl)
or_iff false b = (λ e. inr e, λ h. elim h [ inl e ↦ absurd (true≢false (sym e)) | inr e ↦ e ])

and_iff : (a b : Bool) → ((a && b) ≡ true) ↔ ((a ≡ true) × (b ≡ true))
and_iff true b = (λ e. (refl, e), λ h. h.1)
and_iff false b = (λ e. absurd (true≢false (sym e)), λ h. h.0)

not_iff : (a : Bool) → (not a ≡ true) ↔ (¬ (a ≡ true))
not_iff true = (λ e. absurd (true≢false (sym e)), λ h. absurd (h refl))
not_iff false = (λ e h. true≢false (sym h), λ h. refl)

module _ (h : Header) (a b n : RowsData) where
  pub of_union : IsRelation h (set.union (body a) (body b)) n → IsRelationOf h (λ t. Has a t ⊎ Has b t) n
  of_union is = by_members h (set.union (body a) (body b)) (λ t. Has a t ⊎ Has b t) n is (λ t.
      let e = set.contains-union attrs_order_total (body a) (body b) t in
      let both = or_iff (set.contains (body a) t) (set.contains (body b) t) in (λ p. both.0 (sym e ∙ p), λ p. e ∙ both.1 p))

  pub of_intersection : IsRelation h (set.intersection (body a) (body b)) n → IsRelationOf h (λ t. Has a t × Has b t) n
  of_intersection is = by_members h (set.intersection (body a) (body b)) (λ t. Has a t × Has b t) n is (λ t.
      let e = set.contains-intersection attrs_order_total (body a) (body b) t in
      let both = and_iff (set.contains (body a) t) (set.contains (body b) t) in (λ p. both.0 (sym e ∙ p), λ p. e ∙ both.1 p))

  pub of_difference : IsRelation h (set.difference (body a) (body b)) n → IsRelationOf h (λ t. Has a t × ¬ Has b t) n
  of_difference is = by_members h (set.difference (body a) (body b)) (λ t. Has a t × ¬ Has b t) n is (λ t.
      let e = set.contains-difference attrs_order_total (body a) (body b) t in
      let both = and_iff (set.contains (body a) t) (not (set.contains (body b) t)) in
      let lacks = not_iff (set.contains (body b) t) in
      (λ p. let w = both.0 (sym e ∙ p) in (w.0, lacks.0 w.1), λ p. e ∙ both.1 (p.0, lacks.1 p.1)))
