-- Changes that are taken back in room that was made before.
use Rattle.std.proofs.Common.{◌≡◌, ◌≤◌, ◌+◌, ◌-◌, ℕ, zero, suc, Bool, true, false, not, cond, ◌&&◌, ◌||◌, List, [], ◌∷◌, ◌++◌, length, take, get_or, refl, sym, ap, ◌∙◌, subst, true≢false, arith}
use Rattle.std.specs.FinSet as set
use Rattle.std.specs.Ordering.{eq_by_cmp}
use Rattle.std.proofs.lemmas.List.{take_all}
use Rattle.std.proofs.lemmas.List.Folds.{list_any-append}
use Rattle.td_values.specs.Data.{Attrs, no_attrs}
use Rattle.td_values.specs.Order.{attrs_order}
use Rattle.td_values.specs.Proving.Total.{attrs_order_total, attrs_tied}
use Rattle.td_values.specs.Rows.{RowsData}
use Rattle.td_relations.specs.Deltas.{DeltaData, IsApplied, inverse_of}
use Rattle.td_relations.specs.Sets.{Has, IsRelation, TupleSet, body, tuple_set}
use Rattle.td_relations.proofs.Edits.{difference_nothing, less_one}
use Rattle.td_relations.proofs.Members.{contains_listed}
use Rattle.td_relations.proofs.Sorted.{len_sorted}
use Rattle.td_algebra.proofs.Lists.{In, in_contains}
use Rattle.td_algebra.proofs.Runs.{same_at}
use Rattle.td_bases.specs.Ways.{LeadsBack, WayBackData}

-- ---- how many there are
fewer : (b : Bool) (n : ℕ) → cond b (n - 1) n ≤ n
fewer true n = omega arith
fewer false n = omega arith

one_at_most : (b : Bool) (n m : ℕ) → n ≤ m → cond b n (n + 1) ≤ m + 1
one_at_most true n m le = omega (arith, le)
one_at_most false n m le = omega (arith, le)

at_most : (a b c : ℕ) → a ≤ b → b ≤ c → a ≤ c
at_most a b c p q = omega (arith, p, q)

len_listed : (ts : List Attrs) → set.len (tuple_set ts) ≤ length ts
len_listed [] = subst (λ (n : ℕ). n ≤ 0) (sym (set.len-empty attrs_order)) (omega arith)
len_listed (t ∷ ts) =
    let before = len_listed ts in
    let goes = one_at_most (set.contains (tuple_set ts) t) (set.len (tuple_set ts)) (length ts) before in
    subst (λ (n : ℕ). n ≤ length (t ∷ ts)) (sym (set.len-insert attrs_order_total (tuple_set ts) t)) (omega (arith, goes))

less_by : (s : TupleSet) (ts : List Attrs) (n : ℕ) → n ≤ length ts → set.len (set.difference s (tuple_set (take n ts))) ≤ set.len s
less_by s ts zero le = subst (λ (u : TupleSet). set.len u ≤ set.len s) (difference_nothing s) (omega arith)
less_by s ts (suc n) le =
    let t = get_or ts n no_attrs in
    let u = set.difference s (tuple_set (take n ts)) in
    let before = less_by s ts n (omega (arith, le)) in
    let step = less_one s u ts n t (omega (arith, le)) (same_at ts n no_attrs t (omega (arith, le))) refl in
    let less = subst (λ (m : ℕ). m ≤ set.len u) (sym (set.len-remove attrs_order_total u t)) (fewer (set.contains u t) (set.len u)) in
    let here : set.len (set.difference s (tuple_set (take (n + 1) ts))) ≤ set.len u = subst (λ (w : TupleSet). set.len w ≤ set.len u) step less in
    let next : n + 1 ≡ suc n = omega arith in
    subst (λ (m : ℕ). set.len (set.difference s (tuple_set (take m ts))) ≤ set.len s) next (at_most _ _ _ here before)

len_less : (s : TupleSet) (ts : List Attrs) → set.len (set.difference s (tuple_set ts)) ≤ set.len s
len_less s ts = subst (λ (us : List Attrs). set.len (set.difference s (tuple_set us)) ≤ set.len s) (take_all (length ts) ts (omega arith)) (less_by s ts (length ts) (omega arith))

-- ---- what is left where the tuples that were put in are taken out
out_again : (a b : Bool) → ((a || b) && not b) ≡ (a && not b)
out_again true true = refl
out_again true false = refl
out_again false true = refl
out_again false false = refl

put_and_taken : (s u : TupleSet) → set.difference (set.union s u) u ≡ set.difference s u
put_and_taken s u = set.same_set attrs_order_total attrs_tied _ _ (λ q.
    set.contains-difference attrs_order_total (set.union s u) u q
    ∙ ap (λ b. b && not (set.contains u q)) (set.contains-union attrs_order_total s u q)
    ∙ out_again (set.contains s q) (set.contains u q)
    ∙ sym (set.contains-difference attrs_order_total s u q))

module _ (r old left : RowsData) (x : DeltaData) (w : WayBackData) (way : LeadsBack r x w) (made : IsApplied r x old) (is : IsRelation old.heading (set.difference (body old) (body x.inserted)) left) where
  pub left_is : body left ≡ set.difference (set.difference (body r) (body x.deleted)) (body x.inserted)
  left_is = is.members ∙ ap (λ (s : TupleSet). set.difference s (body x.inserted)) made.members ∙ put_and_taken (set.difference (body r) (body x.deleted)) (body x.inserted)

  pub there_is_room : length left.tuples + length w.deleted ≤ w.room
  there_is_room =
      let many = sym (len_sorted attrs_order_total left.tuples is.ascending) ∙ ap set.len left_is in
      let first = len_less (set.difference (body r) (body x.deleted)) x.inserted.tuples in
      let second = len_less (body r) x.deleted.tuples in
      let third = len_listed r.tuples in
      let room = way.room in
      let deleted = ap (λ (ts : List Attrs). length ts) way.deleted in
      omega (arith, many, first, second, third, room, deleted)

  -- none of those that are to come back is there
  pub apart_from_left : (t : Attrs) → In t w.deleted → Has left t → ⊥
  apart_from_left t m has = never (set.contains (body r) t) (set.contains (body x.deleted) t) (set.contains (body x.inserted) t)
      ((contains_listed x.deleted.tuples t).1 (in_contains x.deleted.tuples t (subst (In t) way.deleted m)))
      (sym (set.contains-difference attrs_order_total (set.difference (body r) (body x.deleted)) (body x.inserted) t ∙ ap (λ b. b && not (set.contains (body x.inserted) t)) (set.contains-difference attrs_order_total (body r) (body x.deleted) t))
      ∙ ap (λ s. set.contains s t) (sym left_is) ∙ has)
    where
      never : (a b c : Bool) → b ≡ true → ((a && not b) && not c) ≡ true → ⊥
      never true true c e f = true≢false (sym f)
      never false true c e f = true≢false (sym f)
      never a false c e f = true≢false (sym e)

  pub gone_back : (new : RowsData) → IsRelation left.heading (set.union (body left) (tuple_set w.deleted)) new → IsApplied old (inverse_of x) new
  gone_back new again = record {
    heading = again.heading ∙ is.heading;
    members = again.members ∙ (λ i. set.union (is.members i) (tuple_set (way.deleted i)));
    ascending = again.ascending;
  }

-- ---- one list behind the other
pub both_listed : (xs ys : List Attrs) → tuple_set (xs ++ ys) ≡ set.union (tuple_set xs) (tuple_set ys)
both_listed xs ys = set.same_set attrs_order_total attrs_tied _ _ (λ q.
    set.contains-from_list attrs_order_total (xs ++ ys) q
    ∙ list_any-append (eq_by_cmp attrs_order q) xs ys
    ∙ (λ i. sym (set.contains-from_list attrs_order_total xs q) i || sym (set.contains-from_list attrs_order_total ys q) i)
    ∙ sym (set.contains-union attrs_order_total (tuple_set xs) (tuple_set ys) q))
