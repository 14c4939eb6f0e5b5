-- A relation as its set of tuples: for the crates above.
use Rattle.std.proofs.Common.{◌≡◌, ◌↔◌, ◌⊎◌, inl, inr, Bool, true, false, ◌||◌, T, List, [], ◌∷◌, map, get_or, refl, sym, ap, ◌∙◌}
use Rattle.std.specs.declared.cmp.Ordering.{Ordering}
use Rattle.std.specs.declared.cmp.Ordering.TheVariants.{Less}
use Rattle.std.specs.Ordering.{eq_by_cmp, is_eq}
use Rattle.std.specs.Cmp.{tied_itself}
use Rattle.std.specs.List.{All, AllByRecursion, Contains, list_any}
use Rattle.std.specs.List.Sorted.{IsStrictlySortedBy}
use Rattle.std.specs.Option.{is_some}
use Rattle.std.specs.FinMap as map_of
use Rattle.std.specs.FinMap.Entries.{below_all, is_some-find}
use Rattle.std.specs.FinSet as set
use Rattle.std.proofs.lemmas.List.Elements.{All-contains, All-contains_itself}
use Rattle.std.proofs.lemmas.Map.Views.{list_any-from_Contains, Contains-from_any}
use Rattle.td_values.specs.Data.{Attrs}
use Rattle.td_values.specs.Headings.{Header}
use Rattle.td_values.specs.Order.{attrs_order}
use Rattle.td_values.specs.Rows.{RowsData}
use Rattle.td_values.specs.Proving.Total.{attrs_order_total, attrs_equivalence, attrs_tied}
use Rattle.td_values.proofs.Entries.{first, second, less}
use Rattle.td_values.proofs.Walks.{is_tied}
use Rattle.td_relations.specs.Sets.{TupleSet, tuple_set, body, Has, ascending, relation_of, IsRelation}
use Rattle.td_relations.proofs.Sorted.{same_sorted}

module _ {K X : Type 0} (R : K → K → Ordering) where
  below_keys : (k : K) (es : List (K × X)) → T (below_all R k es) → AllByRecursion (λ y. R k y ≡ Less) (map (λ e. e.0) es)
  below_keys k [] b = tt
  below_keys k (e ∷ es) b = (less _ (first _ _ b), below_keys k es (second _ _ b))

  sorted_keys : (es : List (K × X)) → T (map_of.is_sorted R es) → IsStrictlySortedBy R (map (λ e. e.0) es)
  unfolding IsStrictlySortedBy
  sorted_keys [] s = tt
  sorted_keys (e ∷ es) s = (below_keys e.0 es (first _ _ s), sorted_keys es (second _ _ s))

paired : (ts : List Attrs) → map (λ (e : Attrs × Unit {0}). e.0) (map (λ t. (t, tt {0})) ts) ≡ ts
paired [] = refl
paired (t ∷ ts) = ap (λ us. t ∷ us) (paired ts)

pub ascending_ascends : (s : TupleSet) → IsStrictlySortedBy attrs_order (ascending s)
ascending_ascends s = sorted_keys attrs_order _ (map_of.entries_sorted (map_of.from_entries {R = attrs_order} (map (λ t. (t, tt {0})) (set.items s))))

ascending_finds : (s : TupleSet) (q : Attrs) → list_any (eq_by_cmp attrs_order q) (ascending s) ≡ set.contains s q
ascending_finds s q =
    let es : List (Attrs × Unit {0}) = map (λ t. (t, tt {0})) (set.items s) in
    sym (map_of.contains_key-keys (map_of.from_entries {R = attrs_order} es) q)
    ∙ ap is_some (map_of.get-from_entries attrs_order_total es q)
    ∙ is_some-find attrs_order q es
    ∙ ap (list_any (eq_by_cmp attrs_order q)) (paired (set.items s))
    ∙ sym (set.contains-items s q)

-- a set's ascending list is the one ascending list of its members
pub tuples_are : (xs : List Attrs) (s : TupleSet) → IsStrictlySortedBy attrs_order xs → set.from_list xs ≡ s → xs ≡ ascending s
tuples_are xs s up e = same_sorted attrs_order_total attrs_tied xs (ascending s) up (ascending_ascends s)
    (λ q. sym (set.contains-from_list attrs_order_total xs q) ∙ ap (λ w. set.contains w q) e ∙ sym (ascending_finds s q))

-- a relation is its heading and its set
pub relation_is : (h : Header) (s : TupleSet) (r : RowsData) → IsRelation h s r → r ≡ relation_of h s
relation_is h s r is = λ i. record { heading = is.heading i; tuples = tuples_are r.tuples s is.ascending is.members i }

pub relation_of_is : (h : Header) (s : TupleSet) → IsRelation h s (relation_of h s)
relation_of_is h s = record {
  heading = refl;
  members = set.same_set attrs_order_total attrs_tied _ _ (λ q. set.contains-from_list attrs_order_total (ascending s) q ∙ ascending_finds s q);
  ascending = ascending_ascends s;
}

-- a tuple is in the set of a list where it is in the list
pub contains_listed : (xs : List Attrs) (t : Attrs) → (set.contains {R = attrs_order} (set.from_list xs) t ≡ true) ↔ Contains xs t
contains_listed xs t = (
  λ h. Contains-from_any (λ x y e. attrs_tied x y (is_tied _ e)) t xs (sym (set.contains-from_list attrs_order_total xs t) ∙ h),
  λ c. set.contains-from_list attrs_order_total xs t ∙ list_any-from_Contains attrs_equivalence t xs c,
)

-- a tuple is in the relation where it is in its list
pub has_listed : (r : RowsData) (t : Attrs) → Has r t ↔ Contains r.tuples t
has_listed r t = contains_listed r.tuples t

-- what holds of each tuple of a list holds of each member of its set, and the other way round
pub holds_of_member : (P : Attrs → Type 0) (xs : List Attrs) (t : Attrs) → All P xs → set.contains (tuple_set xs) t ≡ true → P t
holds_of_member P xs t a h = All-contains P xs t a ((contains_listed xs t).0 h)

pub holds_of_all : (P : Attrs → Type 0) (xs : List Attrs) → ((t : Attrs) → set.contains (tuple_set xs) t ≡ true → P t) → All P xs
holds_of_all P xs h k d lt = h (get_or xs k d) ((contains_listed xs (get_or xs k d)).1 (All-contains_itself xs k d lt))

pub either : (a b : Bool) → (a || b) ≡ true → (b ≡ true) ⊎ (a ≡ true)
either true b e = inr refl
either false b e = inl e

-- after a tuple is added
pub has_inserted : (h : Header) (s : TupleSet) (t : Attrs) (r : RowsData) → IsRelation h (set.insert s t) r → (u : Attrs) → Has r u ↔ ((set.contains s u ≡ true) ⊎ (u ≡ t))
has_inserted h s t r is u =
    let members : set.contains (body r) u ≡ (eq_by_cmp attrs_order u t || set.contains s u) = ap (λ w. set.contains w u) is.members ∙ set.contains-insert attrs_order_total s t u in (
      λ has. elim (either (eq_by_cmp attrs_order u t) (set.contains s u) (sym members ∙ has)) [ inl old ↦ inl old | inr same ↦ inr (attrs_tied u t (is_tied _ same)) ],
      λ known. members ∙ elim known [ inl old ↦ rw old (or_true (eq_by_cmp attrs_order u t)) | inr same ↦ ap (λ b. b || set.contains s u) (ap (λ w. is_eq (attrs_order u w)) (sym same) ∙ ap is_eq (tied_itself attrs_order_total u)) ],
    )
  where
    or_true : (b : Bool) → (b || true) ≡ true
    or_true true = refl
    or_true false = refl
