-- Sets of tuples that grow and shrink a tuple at a time.
use Rattle.std.proofs.Common.{◌≡◌, ℕ, ◌+◌, ◌<◌, Bool, true, false, not, ◌&&◌, ◌||◌, List, [], ◌∷◌, ◌++◌, length, take, get_or, refl, sym, ap, ◌∙◌}
use Rattle.std.specs.Ordering.{eq_by_cmp}
use Rattle.std.specs.FinSet as set
use Rattle.std.proofs.lemmas.List.{take_more}
use Rattle.td_values.specs.Data.{Attrs}
use Rattle.td_values.specs.Order.{attrs_order}
use Rattle.td_values.specs.Proving.Total.{attrs_order_total, attrs_tied}
use Rattle.td_relations.specs.Sets.{TupleSet, tuple_set}

without_empty : (a : Bool) → a ≡ (a && not false)
without_empty true = refl
without_empty false = refl

with_empty : (a : Bool) → a ≡ (a || false)
with_empty true = refl
with_empty false = refl

one_less : (e a b : Bool) → (not e && (a && not b)) ≡ (a && not (e || b))
one_less true true b = refl
one_less true false b = refl
one_less false a b = refl

one_more : (e a b : Bool) → (e || (a || b)) ≡ (a || (e || b))
one_more true true b = refl
one_more true false b = refl
one_more false a b = refl

pub difference_nothing : (s : TupleSet) → s ≡ set.difference s set.empty
difference_nothing s = set.same_set attrs_order_total attrs_tied _ _ (λ q.
    without_empty (set.contains s q) ∙ ap (λ b. set.contains s q && not b) (sym (set.contains-empty attrs_order q)) ∙ sym (set.contains-difference attrs_order_total s set.empty q))

pub union_nothing : (s : TupleSet) → s ≡ set.union s set.empty
union_nothing s = set.same_set attrs_order_total attrs_tied _ _ (λ q.
    with_empty (set.contains s q) ∙ ap (λ b. set.contains s q || b) (sym (set.contains-empty attrs_order q)) ∙ sym (set.contains-union attrs_order_total s set.empty q))

remove_difference : (s u : TupleSet) (t : Attrs) → set.remove (set.difference s u) t ≡ set.difference s (set.insert u t)
remove_difference s u t = set.same_set attrs_order_total attrs_tied _ _ (λ q.
    set.contains-remove attrs_order_total (set.difference s u) t q ∙ ap (λ b. not (eq_by_cmp attrs_order q t) && b) (set.contains-difference attrs_order_total s u q)
    ∙ one_less (eq_by_cmp attrs_order q t) (set.contains s q) (set.contains u q)
    ∙ sym (set.contains-difference attrs_order_total s (set.insert u t) q ∙ ap (λ b. set.contains s q && not b) (set.contains-insert attrs_order_total u t q)))

insert_union : (s u : TupleSet) (t : Attrs) → set.insert (set.union s u) t ≡ set.union s (set.insert u t)
insert_union s u t = set.same_set attrs_order_total attrs_tied _ _ (λ q.
    set.contains-insert attrs_order_total (set.union s u) t q ∙ ap (λ b. eq_by_cmp attrs_order q t || b) (set.contains-union attrs_order_total s u q)
    ∙ one_more (eq_by_cmp attrs_order q t) (set.contains s q) (set.contains u q)
    ∙ sym (set.contains-union attrs_order_total s (set.insert u t) q ∙ ap (λ b. set.contains s q || b) (set.contains-insert attrs_order_total u t q)))

pushed : (ts : List Attrs) (t : Attrs) → tuple_set (ts ++ t ∷ []) ≡ set.insert (tuple_set ts) t
pushed = set.from_list_push attrs_order_total attrs_tied

-- one turn of a loop that takes out, after the first i of ts
pub less_one : (s n : TupleSet) (ts : List Attrs) (i : ℕ) (t : Attrs) → i < length ts → t ≡ get_or ts i t → n ≡ set.difference s (tuple_set (take i ts)) → set.remove n t ≡ set.difference s (tuple_set (take (i + 1) ts))
less_one s n ts i t lt is e =
    ap (λ w. set.remove w t) e ∙ remove_difference s (tuple_set (take i ts)) t
    ∙ ap (set.difference s) (sym (ap tuple_set (take_more ts i t lt ∙ ap (λ x. take i ts ++ x ∷ []) (sym is)) ∙ pushed (take i ts) t))

-- one turn of a loop that puts in, after ts
pub more_one : (s n : TupleSet) (ts : List Attrs) (t : Attrs) → n ≡ set.union s (tuple_set ts) → set.insert n t ≡ set.union s (tuple_set (ts ++ t ∷ []))
more_one s n ts t e = ap (λ w. set.insert w t) e ∙ insert_union s (tuple_set ts) t ∙ ap (set.union s) (sym (pushed ts t))
