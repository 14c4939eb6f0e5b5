-- What becomes of an index where its relation changes.
use Rattle.std.proofs.Common.{◌≡◌, ◌↔◌, ◌⊎◌, inl, inr, ℕ, Bool, true, false, not, ◌&&◌, ◌||◌, IsTrue, List, ◌++◌, ◌∷◌, [], get_or, length, slice_set, take, zero, suc, ◌<◌, ◌≤◌, ◌+◌, arith, Result, Ok, Err, OnOk, OnErr, refl, sym, ap, ◌∙◌, subst, true≢false}
use Rattle.std.specs.FinSet as set
use Rattle.std.specs.List.{All, Contains, filter}
use Rattle.std.specs.List.Sorted.{IsPermutation, IsStrictlySortedBy}
use Rattle.std.specs.Ordering.{eq_by_cmp}
use Rattle.std.proofs.Math.Seq.{map-set_same}
use Rattle.std.proofs.lemmas.Bool.{cases_eq, cases_lt}
use Rattle.std.proofs.lemmas.List.{get_or-set_other, get_or-set_same, length-map, length-set}
use Rattle.std.proofs.lemmas.List.Kept.{IsStrictlySortedBy-filter}
use Rattle.std.proofs.lemmas.List.Sorted.{IsPermutation-middle, IsPermutation-refl, IsPermutation-trans}
use Rattle.std.proofs.lemmas.Map.Keys.{sorted_head, sorted_tail}
use Rattle.td_values.specs.Data.{Attrs}
use Rattle.td_values.specs.Order.{attrs_order}
use Rattle.td_values.specs.Proving.Total.{attrs_order_total, attrs_tied}
use Rattle.td_values.specs.Rows.{RowsData}
use Rattle.td_relations.specs.Deltas.{DeltaData, IsApplied, applied, inverse_of}
use Rattle.td_relations.specs.Sets.{Has, IsRelation, TupleSet, body, relation_of, tuple_set}
use Rattle.td_relations.proofs.Edits.{union_nothing}
use Rattle.td_relations.proofs.Members.{contains_listed, has_inserted, has_listed, relation_is, relation_of_is}
use Rattle.td_relations.proofs.Sorted.{none_above, remove_absent}
use Rattle.td_algebra.proofs.KeyLaws.{inserted, removed}
use Rattle.td_algebra.proofs.Lists.{In, contains_in, in_contains}
use Rattle.td_algebra.proofs.Pairs.{entry_of, of_entry}
use Rattle.td_algebra.proofs.PlacedParts.{itself, same_key}
use Rattle.td_algebra.proofs.Runs.{same_at}
use Rattle.td_tuples.specs.Parts.{Fits}
use Rattle.td_algebra.specs.KeyIndexes.{HasMore, HasOneMore, IsKeyIndex, KeyIndexData}
use Rattle.td_bases.specs.Bases.{BaseData, changed, changed_base}
use Rattle.td_bases.specs.ForProofs.Keyed.{AreFresh, IsBeyond, IsIndexOf, IsLeft, Tells, first_key, keys_of, with_more}
use Rattle.td_bases.proofs.Lists.{one_bool, permuted_filter, same_filter}

-- by its own key
own : (key : List (List ℕ)) (r : RowsData) (x : KeyIndexData) → IsKeyIndex key r x → IsIndexOf r x
own key r x is = record { heading = is.heading; key = refl; tuples = is.tuples }

-- relations with the same heading and members are one
pub one_relation : (r n : RowsData) → n.heading ≡ r.heading → IsStrictlySortedBy attrs_order r.tuples → IsStrictlySortedBy attrs_order n.tuples → body n ≡ body r → n ≡ r
one_relation r n heading up down same =
    relation_is r.heading (body r) n (record { heading = heading; members = same; ascending = down })
    ∙ sym (relation_is r.heading (body r) r (record { heading = refl; members = refl; ascending = up }))

same_members : (r n : RowsData) → ((t : Attrs) → Has r t → Has n t) → ((t : Attrs) → Has n t → Has r t) → body n ≡ body r
same_members r n there only = set.same_set attrs_order_total attrs_tied _ _ (λ q. one_bool (set.contains (body n) q) (set.contains (body r) q) (only q) (there q))

-- ---- many tuples more
absent_later : (t : Attrs) (ts : List Attrs) → IsStrictlySortedBy attrs_order (t ∷ ts) → In t ts → ⊥
absent_later t ts up m = true≢false (
    sym ((contains_listed ts t).1 (in_contains ts t m))
    ∙ set.contains-from_list attrs_order_total ts t
    ∙ none_above attrs_order_total t ts (sorted_head attrs_order t ts up))

or_moved : (a b c : Bool) → ((a || b) || c) ≡ (b || (a || c))
or_moved true true c = refl
or_moved true false c = refl
or_moved false b c = refl

first_moved : (s : TupleSet) (t : Attrs) (ts : List Attrs) → set.union (set.insert s t) (tuple_set ts) ≡ set.union s (tuple_set (t ∷ ts))
first_moved s t ts = set.same_set attrs_order_total attrs_tied _ _ (λ q.
    set.contains-union attrs_order_total (set.insert s t) (tuple_set ts) q
    ∙ (λ i. set.contains-insert attrs_order_total s t q i || set.contains-from_list attrs_order_total ts q i)
    ∙ or_moved (eq_by_cmp attrs_order q t) (set.contains s q) _
    ∙ ap (λ b. set.contains s q || b) (sym (set.contains-from_list attrs_order_total (t ∷ ts) q))
    ∙ sym (set.contains-union attrs_order_total s (tuple_set (t ∷ ts)) q))

pub merged : (ts : List Attrs) (r n : RowsData) (x y : KeyIndexData) → IsStrictlySortedBy attrs_order r.tuples → IsStrictlySortedBy attrs_order ts
    → ((t : Attrs) → In t ts → Has r t → ⊥) → IsIndexOf r x → IsRelation r.heading (set.union (body r) (tuple_set ts)) n → HasMore ts x y → IsIndexOf n y
merged [] r n x y up rising apart is of more =
    let one : n ≡ r = one_relation r n of.heading up of.ascending (of.members ∙ sym (union_nothing (body r))) in
    subst (λ q. IsIndexOf q y) (sym one) (record { heading = more.heading ∙ is.heading; key = refl; tuples = IsPermutation-trans r.tuples x.tuples y.tuples is.tuples more.tuples })
merged (t ∷ ts) r n x y up rising apart is of more =
    let m = relation_of r.heading (set.insert (body r) t) in
    let mid = relation_of_is r.heading (set.insert (body r) t) in
    let z : KeyIndexData = record { heading = x.heading; key = x.key; tuples = t ∷ x.tuples } in
    let one : HasOneMore t x z = record { heading = refl; key = refl; tuples = IsPermutation-refl (t ∷ x.tuples) } in
    let first = own x.key m z (inserted x.key r m t x z up is (apart t (inl refl)) mid one) in
    let later : (u : Attrs) → In u ts → Has m u → ⊥ = λ u k has. elim ((has_inserted r.heading (body r) t m mid u).0 has) [
      | inl old ↦ apart u (inr k) old
      | inr same ↦ absent_later t ts rising (subst (λ w. In w ts) same k)
    ] in
    merged ts m n z y mid.ascending (sorted_tail attrs_order t ts rising) later first (record {
      heading = of.heading;
      members = of.members ∙ sym (first_moved (body r) t ts) ∙ ap (λ s. set.union s (tuple_set ts)) (sym mid.members);
      ascending = of.ascending;
    }) (record { heading = more.heading; key = more.key; tuples = IsPermutation-trans (ts ++ t ∷ x.tuples) (t ∷ (ts ++ x.tuples)) y.tuples (IsPermutation-middle ts t x.tuples) more.tuples })

-- ---- what a relation lacks is put in
lacks : (a b : Bool) → (a || (b && not a)) ≡ (a || b)
lacks true true = refl
lacks true false = refl
lacks false true = refl
lacks false false = refl

united : (s u : TupleSet) → set.union s (set.difference u s) ≡ set.union s u
united s u = set.same_set attrs_order_total attrs_tied _ _ (λ q.
    set.contains-union attrs_order_total s (set.difference u s) q
    ∙ ap (λ b. set.contains s q || b) (set.contains-difference attrs_order_total u s q)
    ∙ lacks (set.contains s q) (set.contains u q)
    ∙ sym (set.contains-union attrs_order_total s u q))

never_both : (a b : Bool) → (b && not a) ≡ true → a ≡ true → ⊥
never_both true true e f = true≢false (sym e)
never_both true false e f = true≢false (sym e)
never_both false b e f = true≢false (sym f)

module _ (r i : RowsData) (ts : List Attrs) (fresh : AreFresh r i ts) where
  pub fresh_apart : (t : Attrs) → In t ts → Has r t → ⊥
  fresh_apart t m has = never_both (set.contains (body r) t) (set.contains (body i) t)
      (sym (set.contains-difference attrs_order_total (body i) (body r) t) ∙ ap (λ s. set.contains s t) (sym fresh.members) ∙ (contains_listed ts t).1 (in_contains ts t m)) has

  pub gained : (x y : KeyIndexData) → IsStrictlySortedBy attrs_order r.tuples → IsIndexOf r x → HasMore ts x y → IsIndexOf (with_more r i) y
  gained x y up is more =
      let all = relation_of_is r.heading (set.union (body r) (body i)) in
      merged ts r (with_more r i) x y up fresh.ascending fresh_apart is (record {
        heading = all.heading;
        members = all.members ∙ sym (united (body r) (body i)) ∙ ap (set.union (body r)) (sym fresh.members);
        ascending = all.ascending;
      }) more

-- ---- one tuple or none is put in
within : (a b : Bool) → (b ≡ true → a ≡ true) → (a || b) ≡ a
within true b all = refl
within false true all = sym (all refl)
within false false all = refl

apart_from_all : (a b : Bool) → (b ≡ true → a ≡ false) → (b && not a) ≡ b
apart_from_all a true none = ap not (none refl)
apart_from_all a false none = refl

pub nothing_more : (r i : RowsData) → IsStrictlySortedBy attrs_order r.tuples → ((t : Attrs) → Has i t → Has r t) → with_more r i ≡ r
nothing_more r i up all =
    let is = relation_of_is r.heading (set.union (body r) (body i)) in
    one_relation r (with_more r i) is.heading up is.ascending (
    is.members
    ∙ set.same_set attrs_order_total attrs_tied _ _ (λ q. set.contains-union attrs_order_total (body r) (body i) q ∙ within (set.contains (body r) q) (set.contains (body i) q) (all q)))

pub none_there : (ts : List Attrs) → length ts ≡ 0 → (q : Attrs) → set.contains (tuple_set ts) q ≡ true → ⊥
none_there [] many q has = true≢false (sym has ∙ set.contains-from_list attrs_order_total [] q)
none_there (t ∷ ts) many q has = absurd (omega (arith, many))

only_one : (ts : List Attrs) (t q : Attrs) → ts ≡ t ∷ [] → set.contains (tuple_set ts) q ≡ true → q ≡ t
only_one ts t q is has = elim (subst (In q) is (contains_in ts q ((contains_listed ts q).0 has))) [ inl same ↦ same | inr none ↦ absurd none ]

pub all_there : (r i : RowsData) (t : Attrs) → i.tuples ≡ t ∷ [] → Has r t → (q : Attrs) → Has i q → Has r q
all_there r i t is there q has = subst (Has r) (sym (only_one i.tuples t q is has)) there

pub one_fresh : (r i : RowsData) (t : Attrs) → IsStrictlySortedBy attrs_order i.tuples → i.tuples ≡ t ∷ [] → set.contains (body r) t ≡ false → All (Fits r.heading) i.tuples → AreFresh r i (t ∷ [])
one_fresh r i t up is absent fit = record {
  ascending = subst (IsStrictlySortedBy attrs_order) is up;
  members = ap tuple_set (sym is) ∙ set.same_set attrs_order_total attrs_tied _ _ (λ q.
      sym (set.contains-difference attrs_order_total (body i) (body r) q ∙ apart_from_all (set.contains (body r) q) (set.contains (body i) q) (λ has. ap (set.contains (body r)) (only_one i.tuples t q is has) ∙ absent)));
  fit = subst (All (Fits r.heading)) is fit;
}

pub one_more_on : {E : Type 0} (r i : RowsData) (t : Attrs) (x y : KeyIndexData) → AreFresh r i (t ∷ []) → IsStrictlySortedBy attrs_order r.tuples → IsIndexOf r x → (a : Result (Unit {0}) E)
    → OnOk a (HasOneMore t x y) → OnOk a (IsIndexOf (with_more r i) y)
one_more_on r i t x y fresh up is (Ok u) more = gained r i (t ∷ []) fresh x y up is (record { heading = more.heading; key = more.key; tuples = more.tuples })
one_more_on r i t x y fresh up is (Err e) more = tt

-- where the index puts it in if it lacks it
module _ {E : Type 0} (a : Result (Unit {0}) E) where
  on_ok : (P Q : Type 0) → (P → Q) → OnOk a P → OnOk a Q
  on_ok P Q f p = elim a as (λ a. OnOk a P → OnOk a Q) [ Ok u ↦ f | Err e ↦ λ _. tt ] p

  either_way : (P Q : Type 0) → (P → Q) → OnOk a Q → OnErr a P → Q
  either_way P Q f ok err = elim a as (λ a. OnOk a Q → OnErr a P → Q) [ Ok u ↦ λ q _. q | Err e ↦ λ _ p. f p ] ok err

module _ {E : Type 0} (r i : RowsData) (t : Attrs) (x y : KeyIndexData) (a : Result (Unit {0}) E) (is : IsIndexOf r x) (more : ¬ (Contains x.tuples t) → OnOk a (HasOneMore t x y)) (same : Contains x.tuples t → OnOk a (y ≡ x)) where
  there : Has r t → Contains x.tuples t
  there has = in_contains x.tuples t (of_entry r x.tuples is.tuples t has)

  not_there : set.contains (body r) t ≡ false → ¬ (Contains x.tuples t)
  not_there e c = true≢false (sym (entry_of r x.tuples is.tuples t (contains_in x.tuples t c)) ∙ e)

  pub put_in_once : IsStrictlySortedBy attrs_order r.tuples → IsStrictlySortedBy attrs_order i.tuples → i.tuples ≡ t ∷ [] → All (Fits r.heading) i.tuples → OnOk a (IsIndexOf (with_more r i) y)
  put_in_once up rising one fit = elim (set.contains (body r) t) as (λ b. set.contains (body r) t ≡ b → OnOk a (IsIndexOf (with_more r i) y)) [
    | true ↦ λ e. on_ok a (y ≡ x) (IsIndexOf (with_more r i) y) (λ q. subst (IsIndexOf (with_more r i)) (sym q) (subst (λ w. IsIndexOf w x) (sym (nothing_more r i up (all_there r i t one e))) is)) (same (there e))
    | false ↦ λ e. one_more_on r i t x y (one_fresh r i t rising one e fit) up is a (more (not_there e))
  ] refl

  pub put_in_by_key : OnErr a (y ≡ x) → y.key ≡ x.key
  put_in_by_key err = elim (set.contains (body r) t) as (λ b. set.contains (body r) t ≡ b → y.key ≡ x.key) [
    | true ↦ λ e. either_way a (y ≡ x) (y.key ≡ x.key) (ap (λ (z : KeyIndexData). z.key)) (on_ok a (y ≡ x) (y.key ≡ x.key) (ap (λ (z : KeyIndexData). z.key)) (same (there e))) err
    | false ↦ λ e. either_way a (y ≡ x) (y.key ≡ x.key) (ap (λ (z : KeyIndexData). z.key)) (on_ok a (HasOneMore t x y) (y.key ≡ x.key) (λ m. m.key) (more (not_there e))) err
  ] refl

-- ---- which tuples stay
of_none : (a : Bool) → (a && not true) ≡ false
of_none true = refl
of_none false = refl

pub told_by_itself : (r g : RowsData) → Tells r r g
told_by_itself r g t has = refl

pub told_by_inserted : (r i o n : RowsData) → IsApplied r (record { inserted = i; deleted = o }) n → Tells i n o
told_by_inserted r i o n is t has =
    ap (λ s. set.contains s t) is.members
    ∙ set.contains-union attrs_order_total (set.difference (body r) (body o)) (body i) t
    ∙ ap (λ b. b || set.contains (body i) t) (
    set.contains-difference attrs_order_total (body r) (body o) t
    ∙ ap (λ b. set.contains (body r) t && not b) has
    ∙ of_none (set.contains (body r) t))

-- ---- indexes that have more than the relation
pub as_it_is : (r : RowsData) (IsGone : Attrs → Type 0) (x : KeyIndexData) → IsStrictlySortedBy attrs_order r.tuples → IsIndexOf r x → IsBeyond r IsGone x
as_it_is r IsGone x up is = record { all = r; heading = refl; ascending = up; index = is; there = λ t has. has; only = λ t has. inl has }

one_of : (a b : Bool) → (a || b) ≡ true → (a ≡ true) ⊎ (b ≡ true)
one_of true b e = inl refl
one_of false b e = inr e

or_right : (a b : Bool) → b ≡ true → (a || b) ≡ true
or_right true b e = refl
or_right false b e = e

module _ (r i : RowsData) where
  has_more : (t : Attrs) → Has (with_more r i) t → Has r t ⊎ Has i t
  has_more t has = one_of (set.contains (body r) t) (set.contains (body i) t)
      (sym (set.contains-union attrs_order_total (body r) (body i) t) ∙ ap (λ s. set.contains s t) (sym (relation_of_is r.heading (set.union (body r) (body i))).members) ∙ has)

  more_has : (t : Attrs) → Has r t ⊎ Has i t → Has (with_more r i) t
  more_has t either =
      ap (λ s. set.contains s t) (relation_of_is r.heading (set.union (body r) (body i))).members
      ∙ set.contains-union attrs_order_total (body r) (body i) t
      ∙ elim either [ inl w ↦ ap (λ b. b || set.contains (body i) t) w | inr w ↦ or_right (set.contains (body r) t) (set.contains (body i) t) w ]

  -- where they were not put into the relation
  pub beyond_old : (y : KeyIndexData) → IsIndexOf (with_more r i) y → IsBeyond r (Has i) y
  beyond_old y is = record {
    all = with_more r i;
    heading = refl;
    ascending = (relation_of_is r.heading (set.union (body r) (body i))).ascending;
    index = is;
    there = λ t has. more_has t (inl has);
    only = has_more;
  }

  -- where they were, and others taken out
  pub beyond_new : (o n : RowsData) → IsApplied r (record { inserted = i; deleted = o }) n → (y : KeyIndexData) → IsIndexOf (with_more r i) y → IsBeyond n (Has o) y
  beyond_new o n is y index = record {
    all = with_more r i;
    heading = sym is.heading;
    ascending = (relation_of_is r.heading (set.union (body r) (body i))).ascending;
    index = index;
    there = λ t has. more_has t (from (set.contains (body r) t) (set.contains (body o) t) (set.contains (body i) t) (sym (members t) ∙ has));
    only = λ t has. into t (has_more t has);
  }
    where
      members : (t : Attrs) → set.contains (body n) t ≡ ((set.contains (body r) t && not (set.contains (body o) t)) || set.contains (body i) t)
      members t =
          ap (λ s. set.contains s t) is.members
          ∙ set.contains-union attrs_order_total (set.difference (body r) (body o)) (body i) t
          ∙ ap (λ b. b || set.contains (body i) t) (set.contains-difference attrs_order_total (body r) (body o) t)

      from : (a b c : Bool) → ((a && not b) || c) ≡ true → (a ≡ true) ⊎ (c ≡ true)
      from true b c e = inl refl
      from false b c e = inr e

      kept : (a b c : Bool) → a ≡ true → (((a && not b) || c) ≡ true) ⊎ (b ≡ true)
      kept true true c e = inr refl
      kept true false c e = inl refl
      kept false b c e = absurd (true≢false (sym e))

      into : (t : Attrs) → Has r t ⊎ Has i t → Has n t ⊎ Has o t
      into t (inl old) = elim (kept (set.contains (body r) t) (set.contains (body o) t) (set.contains (body i) t) old) [ inl w ↦ inl (members t ∙ w) | inr w ↦ inr w ]
      into t (inr new) = inl (members t ∙ or_right (set.contains (body r) t && not (set.contains (body o) t)) (set.contains (body i) t) new)

-- where some were taken out of the relation alone
pub beyond_less : (r o n : RowsData) → IsStrictlySortedBy attrs_order r.tuples → IsRelation r.heading (set.difference (body r) (body o)) n → (x : KeyIndexData) → IsIndexOf r x → IsBeyond n (Has o) x
beyond_less r o n up is x index = record {
  all = r;
  heading = sym is.heading;
  ascending = up;
  index = index;
  there = λ t has. first (set.contains (body r) t) (set.contains (body o) t) (sym (members t) ∙ has);
  only = λ t has. elim (kept (set.contains (body r) t) (set.contains (body o) t) has) [ inl w ↦ inl (members t ∙ w) | inr w ↦ inr w ];
}
  where
    members : (t : Attrs) → set.contains (body n) t ≡ (set.contains (body r) t && not (set.contains (body o) t))
    members t = ap (λ s. set.contains s t) is.members ∙ set.contains-difference attrs_order_total (body r) (body o) t

    first : (a b : Bool) → (a && not b) ≡ true → a ≡ true
    first true b e = refl
    first false b e = e

    kept : (a b : Bool) → a ≡ true → ((a && not b) ≡ true) ⊎ (b ≡ true)
    kept true true e = inr refl
    kept true false e = inl refl
    kept false b e = absurd (true≢false (sym e))

-- ---- until nothing is left besides
pub settled : (r : RowsData) (IsGone : Attrs → Type 0) (x : KeyIndexData) → IsStrictlySortedBy attrs_order r.tuples → ((t : Attrs) → IsGone t → ⊥) → IsBeyond r IsGone x → IsIndexOf r x
settled r IsGone x up none b =
    let only : (t : Attrs) → Has b.all t → Has r t = λ t has. elim (b.only t has) [ inl w ↦ w | inr w ↦ absurd (none t w) ] in
    subst (λ q. IsIndexOf q x) (one_relation r b.all b.heading up b.ascending (same_members r b.all b.there only)) b.index

-- those that the relation has alone are kept
pub kept_is : (r : RowsData) (IsGone : Attrs → Type 0) (x y : KeyIndexData) → IsStrictlySortedBy attrs_order r.tuples → IsBeyond r IsGone x
    → y.heading ≡ x.heading → y.tuples ≡ filter (set.contains (body r)) x.tuples → IsIndexOf r y
kept_is r IsGone x y up b heading tuples =
    let p = set.contains (body r) in
    let left : RowsData = record { heading = r.heading; tuples = filter p b.all.tuples } in
    let rises = IsStrictlySortedBy-filter attrs_order p b.all.tuples b.ascending in
    let has = λ (t : Attrs). same_filter p b.all.tuples t in
    let one : left ≡ r = one_relation r left refl up rises (same_members r left (λ t h. (has t).1 (b.there t h, h)) (λ t h. ((has t).0 h).1)) in
    record {
      heading = heading ∙ b.index.heading ∙ b.heading;
      key = refl;
      tuples = subst (λ us. IsPermutation r.tuples us) (sym tuples) (subst (λ (q : RowsData). IsPermutation q.tuples (filter p x.tuples)) one (permuted_filter p b.all.tuples x.tuples b.index.tuples));
    }

-- one is not there
pub none_left : (ts : List Attrs) (k : ℕ) → length ts ≤ k → (t : Attrs) → IsLeft k ts t → ⊥
none_left ts k all t (i, low, within, is) = omega (arith, all, low, within)

pub all_left : (r o : RowsData) (ts : List Attrs) → ts ≡ o.tuples → (x : KeyIndexData) → IsBeyond r (Has o) x → IsBeyond r (IsLeft 0 ts) x
all_left r o ts same x b = record {
  all = b.all;
  heading = b.heading;
  ascending = b.ascending;
  index = b.index;
  there = b.there;
  only = λ t has. elim (b.only t has) [
    | inl w ↦ inl w
    | inr w ↦ let at = (has_listed o t).0 w in inr (subst (λ us. IsLeft 0 us t) (sym same) (at.0, omega arith, at.1, at.2))
  ];
}

pub stands_in : (g : RowsData) (ts : List Attrs) (k : ℕ) (t : Attrs) → ts ≡ g.tuples → k < length ts → t ≡ get_or ts k t → Has g t
stands_in g ts k t same lt at = (contains_listed g.tuples t).1 (subst (λ (us : List Attrs). Contains us t) same (k, lt, sym at))

module _ (r : RowsData) (ts : List Attrs) (k : ℕ) (t : Attrs) (is : t ≡ get_or ts k t) (x : KeyIndexData) (b : IsBeyond r (IsLeft k ts) x) where
  further : (u : Attrs) → (u ≡ t → ⊥) → IsLeft k ts u → IsLeft (k + 1) ts u
  further u other (i, low, within, at) = elim (cases_lt k i) [
    | inl above ↦ (i, omega (arith, above), within, at)
    | inr below ↦
        let here : k ≡ i = omega (arith, low, below) in
        absurd (other (sym at ∙ same_at ts i u t within ∙ ap (λ j. get_or ts j t) (sym here) ∙ sym is))
  ]

  -- the relation has it
  pub passed : Has r t → IsBeyond r (IsLeft (k + 1) ts) x
  passed has = record {
    all = b.all;
    heading = b.heading;
    ascending = b.ascending;
    index = b.index;
    there = b.there;
    only = λ u w. elim (b.only u w) [
      | inl old ↦ inl old
      | inr left ↦ by u (eq_by_cmp attrs_order u t) refl left
    ];
  }
    where
      by : (u : Attrs) (e : Bool) → eq_by_cmp attrs_order u t ≡ e → IsLeft k ts u → Has r u ⊎ IsLeft (k + 1) ts u
      by u true same left = inl (subst (Has r) (sym (same_key u t same)) has)
      by u false apart left = inr (further u (λ same. true≢false (sym (itself t) ∙ ap (λ w. eq_by_cmp attrs_order w t) (sym same) ∙ apart)) left)

  -- it is taken out
  module _ (y : KeyIndexData) (lacks_it : set.contains (body r) t ≡ false) where
    abbrev less : RowsData
    less = relation_of b.all.heading (set.remove (body b.all) t)

    less_is : IsRelation b.all.heading (set.remove (body b.all) t) less
    less_is = relation_of_is b.all.heading (set.remove (body b.all) t)

    members : (u : Attrs) → set.contains (body less) u ≡ (not (eq_by_cmp attrs_order u t) && set.contains (body b.all) u)
    members u = ap (λ s. set.contains s u) less_is.members ∙ set.contains-remove attrs_order_total (body b.all) t u

    other_of : (e c : Bool) → (not e && c) ≡ true → (e ≡ false) × (c ≡ true)
    other_of true c h = absurd (true≢false (sym h))
    other_of false c h = (refl, h)

    apart_from : (u : Attrs) → Has r u → eq_by_cmp attrs_order u t ≡ false
    apart_from u has = by (eq_by_cmp attrs_order u t) refl
      where
        by : (e : Bool) → eq_by_cmp attrs_order u t ≡ e → eq_by_cmp attrs_order u t ≡ false
        by true same = absurd (true≢false (sym has ∙ ap (set.contains (body r)) (same_key u t same) ∙ lacks_it))
        by false apart = apart

    index_less : (c : Bool) → IsTrue c ↔ Contains x.tuples t → (IsTrue c → HasOneMore t y x) → (c ≡ false → y ≡ x) → IsIndexOf less y
    index_less true was gone absent =
        own x.key less y (removed x.key b.all less t x y b.ascending (own x.key b.all x b.index) (entry_of b.all x.tuples b.index.tuples t (contains_in x.tuples t (was.0 refl))) less_is (gone refl))
    index_less false was gone absent =
        let none : set.contains (body b.all) t ≡ false = by (set.contains (body b.all) t) refl in
        let same : body less ≡ body b.all = less_is.members ∙ sym (remove_absent attrs_order_total attrs_tied (body b.all) t none) in
        let one : less ≡ b.all = one_relation b.all less refl b.ascending less_is.ascending same in
        subst (λ q. IsIndexOf q y) (sym one) (subst (IsIndexOf b.all) (sym (absent refl)) b.index)
      where
        by : (e : Bool) → set.contains (body b.all) t ≡ e → set.contains (body b.all) t ≡ false
        by false e = e
        by true e = absurd (true≢false (sym (was.1 (in_contains x.tuples t (of_entry b.all x.tuples b.index.tuples t e)))))

    pub taken : (c : Bool) → IsTrue c ↔ Contains x.tuples t → (IsTrue c → HasOneMore t y x) → (c ≡ false → y ≡ x) → IsBeyond r (IsLeft (k + 1) ts) y
    taken c was gone absent = record {
      all = less;
      heading = b.heading;
      ascending = less_is.ascending;
      index = index_less c was gone absent;
      there = λ u has. members u ∙ (λ i. not (apart_from u has i) && b.there u has i);
      only = λ u has.
          let both = other_of (eq_by_cmp attrs_order u t) (set.contains (body b.all) u) (sym (members u) ∙ has) in
          elim (b.only u both.1) [
            | inl old ↦ inl old
            | inr left ↦ inr (further u (λ same. true≢false (sym (itself t) ∙ ap (λ w. eq_by_cmp attrs_order w t) (sym same) ∙ both.0)) left)
          ];
    }

    pub same_key_left : (c : Bool) → (IsTrue c → HasOneMore t y x) → (c ≡ false → y ≡ x) → y.key ≡ x.key
    same_key_left true gone absent = sym (gone refl).key
    same_key_left false gone absent = ap (λ (q : KeyIndexData). q.key) (absent refl)

-- ---- indexes place by place
-- those before the place have come to Q, the others stand at P
pub record Turning (P Q : KeyIndexData → Type 0) (xs : List KeyIndexData) (n : ℕ) (ys : List KeyIndexData) : Type 0 where
  pub many : length ys ≡ length xs
  pub keys : keys_of ys ≡ keys_of xs
  pub done : (k : ℕ) (d : KeyIndexData) → k < n → k < length ys → Q (get_or ys k d)
  pub left : (k : ℕ) (d : KeyIndexData) → n ≤ k → k < length ys → P (get_or ys k d)

module _ (P Q : KeyIndexData → Type 0) (xs : List KeyIndexData) where
  pub none_yet : All P xs → Turning P Q xs 0 xs
  none_yet all = record { many = refl; keys = refl; done = λ k d lt. absurd (omega (arith, lt)); left = λ k d low within. all k d within }

  pub one_further : (n : ℕ) (ys : List KeyIndexData) (x y : KeyIndexData) → n < length ys → Turning P Q xs n ys → x ≡ get_or ys n x → Q y → y.key ≡ x.key → Turning P Q xs (n + 1) (slice_set ys n y)
  one_further n ys x y lt u at holds key = record {
    many = length-set ys n y ∙ u.many;
    keys = map-set_same (λ (z : KeyIndexData). z.key) ys n y x (key ∙ ap (λ (z : KeyIndexData). z.key) at) ∙ u.keys;
    done = λ k d below within.
        let many = length-set ys n y in
        elim (cases_lt k n) [
          | inl b ↦ subst Q (sym (get_or-set_other ys n k y d (λ e. absurd (omega (arith, b, e))))) (u.done k d b (omega (arith, within, many)))
          | inr a ↦
              let here : k ≡ n = omega (arith, a, below) in
              subst Q (sym (ap (λ m. get_or (slice_set ys n y) m d) here ∙ get_or-set_same ys n y d lt)) holds
        ];
    left = λ k d above within.
        let many = length-set ys n y in
        subst P (sym (get_or-set_other ys n k y d (λ e. absurd (omega (arith, above, e))))) (u.left k d (omega (arith, above)) (omega (arith, within, many)));
  }

  pub here_left : (n : ℕ) (ys : List KeyIndexData) (x : KeyIndexData) → n < length ys → Turning P Q xs n ys → x ≡ get_or ys n x → P x
  here_left n ys x lt u at = subst P (sym at) (u.left n x (omega arith) lt)

  pub all_done : (n : ℕ) (ys : List KeyIndexData) → length ys ≤ n → Turning P Q xs n ys → All Q ys
  all_done n ys all u k d lt = u.done k d (omega (arith, lt, all)) lt

  pub all_either : (R : KeyIndexData → Type 0) → ((x : KeyIndexData) → P x → R x) → ((x : KeyIndexData) → Q x → R x) → (n : ℕ) (ys : List KeyIndexData) → Turning P Q xs n ys → All R ys
  all_either R from into n ys u k d lt = elim (cases_lt k n) [ inl b ↦ into (get_or ys k d) (u.done k d b lt) | inr a ↦ from (get_or ys k d) (u.left k d a lt) ]

  -- where nothing came of the one at the place
  pub stopped : (R : KeyIndexData → Type 0) → ((x : KeyIndexData) → P x → R x) → ((x : KeyIndexData) → Q x → R x) → (n : ℕ) (ys : List KeyIndexData) (x y : KeyIndexData) → n < length ys → Turning P Q xs n ys
      → x ≡ get_or ys n x → y ≡ x → All R (slice_set ys n y)
  stopped R from into n ys x y lt u at same k d within =
      let many = length-set ys n y in
      let all = all_either R from into n ys u in
      elim (cases_eq n k) [
        | inl here ↦
            let is : get_or (slice_set ys n y) k d ≡ x = ap (λ m. get_or (slice_set ys n y) m d) (sym here) ∙ get_or-set_same ys n y d lt ∙ same in
            subst R (sym is) (subst R (sym at) (all n x lt))
        | inr apart ↦ subst R (sym (get_or-set_other ys n k y d (λ e. apart (sym e)))) (all k d (omega (arith, within, many)))
      ]

-- ---- the first one's key
pub same_first : (xs ys : List KeyIndexData) → keys_of ys ≡ keys_of xs → first_key ys ≡ first_key xs
same_first [] [] e = refl
same_first [] (y ∷ ys) e = cc
same_first (x ∷ xs) [] e = cc
same_first (x ∷ xs) (y ∷ ys) e = cc

pub same_some : (xs ys : List KeyIndexData) → keys_of ys ≡ keys_of xs → 0 < length xs → 0 < length ys
same_some [] ys e some = absurd (omega (arith, some))
same_some (x ∷ xs) [] e some = cc
same_some (x ∷ xs) (y ∷ ys) e some = omega arith

-- ---- what calls leave, where they answer
pub gained_on : {E : Type 0} (r i : RowsData) (ts : List Attrs) (x y : KeyIndexData) → AreFresh r i ts → IsStrictlySortedBy attrs_order r.tuples → IsIndexOf r x → (a : Result (Unit {0}) E)
    → OnOk a (HasMore ts x y) → OnOk a (IsIndexOf (with_more r i) y)
gained_on r i ts x y fresh up is (Ok u) more = gained r i ts fresh x y up is more
gained_on r i ts x y fresh up is (Err e) more = tt

-- ---- what a base is seen as
pub based : (r n : RowsData) (xs ys : List KeyIndexData) (s : BaseData) (d : DeltaData) → record { rows = r; key = first_key xs } ≡ s → IsApplied r d n → first_key ys ≡ first_key xs → record { rows = n; key = first_key ys } ≡ changed_base s d
based r n xs ys s d seen is first =
    let rows : n ≡ changed r d = relation_is r.heading (applied (body r) d) n is in
    (λ i. record { rows = rows i; key = first i }) ∙ ap (λ (b : BaseData). changed_base b d) seen

pub based_on : {E : Type 0} (a : Result (Unit {0}) E) (r n : RowsData) (xs ys : List KeyIndexData) (s : BaseData) (d : DeltaData) → record { rows = r; key = first_key xs } ≡ s → OnOk a (IsApplied r d n)
    → first_key ys ≡ first_key xs → OnOk a (record { rows = n; key = first_key ys } ≡ changed_base s d)
based_on (Ok u) r n xs ys s d seen is first = based r n xs ys s d seen is first
based_on (Err e) r n xs ys s d seen is first = tt

pub on_err : {A E P : Type 0} (a : Result A E) → P → OnErr a P
on_err (Ok u) p = tt
on_err (Err e) p = p

-- ---- all indexes of a relation after a call
module _ (r i : RowsData) (xs : List KeyIndexData) where
  pub all_old : All (IsIndexOf (with_more r i)) xs → All (IsBeyond r (Has i)) xs
  all_old each k d lt = beyond_old r i (get_or xs k d) (each k d lt)

  pub all_new : (o n : RowsData) → IsApplied r (record { inserted = i; deleted = o }) n → All (IsIndexOf (with_more r i)) xs → All (IsBeyond n (Has o)) xs
  all_new o n is each k d lt = beyond_new r i o n is (get_or xs k d) (each k d lt)

pub all_less : (r o n : RowsData) (xs : List KeyIndexData) → IsStrictlySortedBy attrs_order r.tuples → IsRelation r.heading (set.difference (body r) (body o)) n → All (IsIndexOf r) xs → All (IsBeyond n (Has o)) xs
all_less r o n xs up is each k d lt = beyond_less r o n up is (get_or xs k d) (each k d lt)

-- a change that took nothing out is taken back by taking out what it put in
pub nothing_back : (r new : RowsData) (x : DeltaData) → body x.deleted ≡ set.empty → IsRelation r.heading (set.difference (body r) (body x.inserted)) new → IsApplied r (inverse_of x) new
nothing_back r new x none is =
    let left : TupleSet = set.difference (body r) (body x.inserted) in
    record { heading = is.heading; members = is.members ∙ union_nothing left ∙ ap (set.union left) (sym none); ascending = is.ascending }

pub first_is : (xs : List KeyIndexData) (d : KeyIndexData) → 0 < length xs → (get_or xs 0 d).key ≡ first_key xs
first_is [] d some = absurd (omega (arith, some))
first_is (x ∷ xs) d some = refl

-- ---- where the first index alone is left
pub one_at_most : (xs zs : List KeyIndexData) → keys_of zs ≡ keys_of (take 1 xs) → length zs ≤ 1
one_at_most [] zs e = let many = ap length e in let long = length-map zs (λ (z : KeyIndexData). z.key) in omega (arith, many, long)
one_at_most (x ∷ xs) zs e = let many = ap length e in let long = length-map zs (λ (z : KeyIndexData). z.key) in omega (arith, many, long)

pub only_first : (P : KeyIndexData → Type 0) (zs : List KeyIndexData) (y : KeyIndexData) → length zs ≤ 1 → P y → All P (slice_set zs 0 y)
only_first P [] y few p k d lt = absurd (omega (arith, lt))
only_first P (z ∷ zs) y few p zero d lt = p
only_first P (z ∷ zs) y few p (suc k) d lt = absurd (omega (arith, lt, few))

pub one_at_least : (xs zs : List KeyIndexData) → keys_of zs ≡ keys_of (take 1 xs) → 0 < length xs → 0 < length zs
one_at_least [] zs e some = absurd (omega (arith, some))
one_at_least (x ∷ xs) zs e some = let many = ap length e in let long = length-map zs (λ (z : KeyIndexData). z.key) in omega (arith, many, long)
