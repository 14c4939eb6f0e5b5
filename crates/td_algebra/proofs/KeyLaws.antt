-- What an index by a key says of the relation whose tuples it has, and what keeps it an index.
use Rattle.std.proofs.Common.{◌≡◌, ℕ, ◌≤◌, Bool, true, false, not, ◌&&◌, ◌||◌, inl, inr, cond, List, [], ◌∷◌, refl, sym, ap, ◌∙◌, subst, arith}
use Rattle.std.specs.FinSet as set
use Rattle.std.specs.List.{remove, sum_by}
use Rattle.std.specs.List.Sorted.{IsPermutation, IsStrictlySortedBy}
use Rattle.std.specs.Ordering.{eq_by_cmp}
use Rattle.std.proofs.lemmas.List.Sorted.{IsPermutation-refl, IsPermutation-sym, IsPermutation-trans, IsPermutation-cons, IsPermutation-remove, sum_by_popped}
use Rattle.std.proofs.lemmas.List.Sums.{sum_by-cons}
use Rattle.td_values.specs.Data.{Attrs}
use Rattle.td_values.specs.Order.{attrs_order}
use Rattle.td_values.specs.Proving.Total.{attrs_order_total, attrs_tied}
use Rattle.td_values.specs.Rows.{RowsData}
use Rattle.td_relations.specs.Sets.{Has, body}
use Rattle.td_relations.proofs.Members.{has_listed, tuples_are}
use Rattle.td_relations.proofs.Searches.{relation_without}
use Rattle.td_tuples.specs.Parts.{cut}
use Rattle.td_algebra.specs.Keys.{shares_part, KeyIndexTellsApart, KeyIndexInserted, KeyIndexRemoved}
use Rattle.td_algebra.proofs.Apart.{one_of}
use Rattle.td_algebra.proofs.Lists.{In, contains_in, in_contains, in_filter, filter_in}
use Rattle.td_algebra.proofs.Pairs.{entry_of, of_entry}
use Rattle.td_algebra.proofs.PlacedParts.{itself, same_key}

-- ---- lists with the same tuples, each as often
counted : (t : Attrs) (us : List Attrs) → 1 ≤ sum_by (one_of t) us → In t us
counted t [] some = absurd (omega (arith, some))
counted t (u ∷ us) some =
    let whole = sum_by-cons (one_of t) u us in
    elim (eq_by_cmp attrs_order t u) as (λ b. eq_by_cmp attrs_order t u ≡ b → In t (u ∷ us)) [
      | true ↦ λ e. inl (same_key t u e)
      | false ↦ λ e. let none : one_of t u ≡ 0 = ap (λ b. cond b 1 0) e in inr (counted t us (omega (arith, whole, some, none)))
    ] refl

pub by_counts : (xs ys : List Attrs) → ((f : Attrs → ℕ) → sum_by f xs ≡ sum_by f ys) → IsPermutation xs ys
by_counts [] [] e = IsPermutation-refl []
by_counts [] (y ∷ ys) e = let whole = sum_by-cons (λ _. 1) y ys in let none = e (λ _. 1) in absurd (omega (arith, whole, none))
by_counts (x ∷ xs) ys e =
    let first = sum_by-cons (one_of x) x xs in
    let here : one_of x x ≡ 1 = ap (λ b. cond b 1 0) (itself x) in
    let at = in_contains ys x (counted x ys (let same = e (one_of x) in omega (arith, first, here, same))) in
    let moved = IsPermutation-remove ys at.0 x at.1 (sym at.2) in
    let rest : IsPermutation xs (remove ys at.0) = by_counts xs (remove ys at.0) (λ f. let a = sum_by-cons f x xs in let b = sum_by_popped f x ys (remove ys at.0) moved in let c = e f in omega (arith, a, b, c)) in
    IsPermutation-trans (x ∷ xs) (x ∷ remove ys at.0) ys (IsPermutation-cons x xs (remove ys at.0) rest) (IsPermutation-sym ys (x ∷ remove ys at.0) moved)

-- without the first tuple of both
without_first : (t : Attrs) (xs ys zs : List Attrs) → IsPermutation zs (t ∷ xs) → IsPermutation zs (t ∷ ys) → IsPermutation xs ys
without_first t xs ys zs p q = by_counts xs ys (λ f. let a = sum_by_popped f t zs xs p in let b = sum_by_popped f t zs ys q in omega (arith, a, b))

-- ---- a relation with a tuple, and the relation without it
one_less : (n r : RowsData) (t : Attrs) → IsStrictlySortedBy attrs_order n.tuples → IsStrictlySortedBy attrs_order r.tuples → Has n t → body r ≡ set.remove (body n) t → IsPermutation n.tuples (t ∷ r.tuples)
one_less n r t up down has same =
    let at = (has_listed n t).0 has in
    let left = relation_without n.heading n.tuples t at.0 up (record { in_range = at.1; is = at.2; there = has }) in
    let tuples : remove n.tuples at.0 ≡ r.tuples = tuples_are _ _ left.ascending left.members ∙ sym (tuples_are r.tuples (set.remove (body n) t) down same) in
    subst (λ us. IsPermutation n.tuples (t ∷ us)) tuples (IsPermutation-remove n.tuples at.0 t at.1 (sym at.2))

one_more_there : (n r : RowsData) (t : Attrs) → body n ≡ set.insert (body r) t → Has n t
one_more_there n r t e = ap (λ s. set.contains s t) e ∙ set.contains-insert attrs_order_total (body r) t t ∙ ap (λ b. b || set.contains (body r) t) (itself t)

put_back : (n r : RowsData) (t : Attrs) → ¬ (Has r t) → body n ≡ set.insert (body r) t → body r ≡ set.remove (body n) t
put_back n r t absent e = set.same_set attrs_order_total attrs_tied (body r) (set.remove (body n) t) (λ q.
    sym (set.contains-remove attrs_order_total (body n) t q
    ∙ ap (λ s. not (eq_by_cmp attrs_order q t) && set.contains s q) e
    ∙ ap (λ b. not (eq_by_cmp attrs_order q t) && b) (set.contains-insert attrs_order_total (body r) t q)
    ∙ by q (eq_by_cmp attrs_order q t) (set.contains (body r) q) refl refl))
  where
    by : (q : Attrs) (b c : Bool) → eq_by_cmp attrs_order q t ≡ b → set.contains (body r) q ≡ c → (not (eq_by_cmp attrs_order q t) && (eq_by_cmp attrs_order q t || set.contains (body r) q)) ≡ set.contains (body r) q
    by q false c e f = ap (λ b. not b && (b || set.contains (body r) q)) e
    by q true false e f = ap (λ b. not b && (b || set.contains (body r) q)) e ∙ sym f
    by q true true e f = absurd (absent (subst (Has r) (same_key q t e) f))

-- ---- the laws
pub inserted : KeyIndexInserted
inserted key r n t x y up is absent of more =
    let larger = one_less n r t of.ascending up (one_more_there n r t of.members) (put_back n r t absent of.members) in
    record {
      heading = more.heading ∙ is.heading ∙ sym of.heading;
      key = more.key ∙ is.key;
      tuples = IsPermutation-trans n.tuples (t ∷ r.tuples) y.tuples larger (IsPermutation-trans (t ∷ r.tuples) (t ∷ x.tuples) y.tuples (IsPermutation-cons t r.tuples x.tuples is.tuples) more.tuples);
    }

pub removed : KeyIndexRemoved
removed key r n t x y up is has of more =
    let smaller = one_less r n t up of.ascending has of.members in
    record {
      heading = sym more.heading ∙ is.heading ∙ sym of.heading;
      key = sym more.key ∙ is.key;
      tuples = without_first t n.tuples y.tuples r.tuples smaller (IsPermutation-trans r.tuples x.tuples (t ∷ y.tuples) is.tuples (IsPermutation-sym (t ∷ y.tuples) x.tuples more.tuples));
    }

pub tells_apart : KeyIndexTellsApart
tells_apart key r x is = (
  λ told t u has there.
      let kept = in_filter (shares_part key t) x.tuples u (contains_in _ u there) in
      told t u has (entry_of r x.tuples is.tuples u kept.0) (sym (same_key _ _ kept.1)),
  λ alone t u p q same.
      alone t u p (in_contains _ u (filter_in (shares_part key t) x.tuples u (of_entry r x.tuples is.tuples u q) (subst (λ w. eq_by_cmp attrs_order (cut key u) w ≡ true) (sym same) (itself (cut key u))))),
)
