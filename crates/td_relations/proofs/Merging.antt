-- Merges of ascending lists of tuples, and of relations.
use Rattle.std.proofs.Common.{◌≡◌, ◌↔◌, IsTrue, ◌⊎◌, inl, inr, Bool, true, false, not, ◌&&◌, ◌||◌, List, refl, sym, ap, ◌∙◌, subst, true≢false}
use Rattle.std.specs.FinSet as set
use Rattle.std.specs.List.{filter, list_all}
use Rattle.std.specs.Ordering.{eq_by_cmp}
use Rattle.std.specs.List.Sorted.{IsStrictlySortedBy}
use Rattle.std.proofs.lemmas.List.Kept.{IsStrictlySortedBy-filter}
use Rattle.std.proofs.lemmas.Map.Views.{any-filter_same}
use Rattle.std.proofs.lemmas.List.Sums.{AllPass-from_list_all, list_all-from_AllPass}
use Rattle.td_values.specs.Data.{Attrs}
use Rattle.td_values.specs.Headings.{Header}
use Rattle.td_values.specs.Order.{attrs_order}
use Rattle.td_values.specs.Proving.Total.{attrs_order_total, attrs_tied}
use Rattle.td_values.proofs.Walks.{is_tied}
use Rattle.td_relations.specs.declared.merges.Kept.{Kept}
use Rattle.td_values.specs.Rows.{RowsData, AreRows}
use Rattle.td_relations.specs.Sets.{TupleSet, tuple_set, body, Has, IsRelation, IsRelationOf}
use Rattle.td_relations.specs.Merges.{first_alone, is_kept, IsMerge, second_alone}
use Rattle.td_relations.proofs.Fits.{Fits}
use Rattle.td_relations.proofs.Members.{holds_of_member, holds_of_all}
use Rattle.td_relations.proofs.Predicates.{by_predicate, set_of}
use Rattle.td_relations.proofs.Walks.{kept, walk, sorted_walk, has_walk}

same_test : (k : Kept) (p q : Bool) → kept k.first k.both k.second p q ≡ is_kept k p q
same_test k true true = refl
same_test k true false = refl
same_test k false true = refl
same_test k false false = refl

pub walk_is_merge : (k : Kept) (xs ys zs : List Attrs) → IsStrictlySortedBy attrs_order xs → IsStrictlySortedBy attrs_order ys → zs ≡ walk attrs_order k.first k.both k.second xs ys → IsMerge k xs ys zs
walk_is_merge k xs ys zs up t e = record {
  ascending = subst (IsStrictlySortedBy attrs_order) (sym e) (sorted_walk attrs_order_total attrs_tied k.first k.both k.second xs ys up t);
  members = λ q.
      ap (λ w. set.contains {R = attrs_order} (set.from_list w) q) e
      ∙ set.contains-from_list attrs_order_total (walk attrs_order k.first k.both k.second xs ys) q
      ∙ has_walk attrs_order_total attrs_tied k.first k.both k.second q xs ys up t
      ∙ same_test k _ _
      ∙ (λ i. is_kept k (sym (set.contains-from_list attrs_order_total xs q) i) (sym (set.contains-from_list attrs_order_total ys q) i));
}

-- a list without what another one has is what it has alone
pub lacking_is_merge : (xs ys zs : List Attrs) → IsStrictlySortedBy attrs_order xs → zs ≡ filter (λ t. not (set.contains (tuple_set ys) t)) xs → IsMerge first_alone xs ys zs
lacking_is_merge xs ys zs up e =
    let p : Attrs → Bool = λ t. not (set.contains (tuple_set ys) t) in
    record {
      ascending = subst (IsStrictlySortedBy attrs_order) (sym e) (IsStrictlySortedBy-filter attrs_order p xs up);
      members = λ q.
          ap (λ ws. set.contains {R = attrs_order} (set.from_list ws) q) e
          ∙ set.contains-from_list attrs_order_total (filter p xs) q
          ∙ any-filter_same (eq_by_cmp attrs_order q) p (p q) (λ k same. ap p (sym (attrs_tied q k (is_tied _ same)))) xs
          ∙ ap (λ b. p q && b) (sym (set.contains-from_list attrs_order_total xs q))
          ∙ alone_test (set.contains (tuple_set xs) q) (set.contains (tuple_set ys) q);
    }
  where
    alone_test : (b c : Bool) → (not c && b) ≡ is_kept first_alone b c
    alone_test true true = refl
    alone_test true false = refl
    alone_test false true = refl
    alone_test false false = refl

-- what is kept is in one of the lists
in_either : (k : Kept) (p q : Bool) → is_kept k p q ≡ true → (p ≡ true) ⊎ (q ≡ true)
in_either k true q e = inl refl
in_either k false true e = inr refl
in_either k false false e = absurd (true≢false (sym e))

-- so it fits where the tuples of both do
pub rows_of_merge : (k : Kept) (h : Header) (xs ys zs : List Attrs) → IsMerge k xs ys zs → AreRows h xs → AreRows h ys → AreRows h zs
rows_of_merge k h xs ys zs is a b = record {
  fit = holds_of_all (Fits h) zs (λ t has. elim (in_either k _ _ (sym (is.members t) ∙ has)) [ inl p ↦ holds_of_member (Fits h) xs t a.fit p | inr q ↦ holds_of_member (Fits h) ys t b.fit q ]);
  ascending = is.ascending;
}

-- ---- the three
by_test : (h : Header) (s : TupleSet) (p : Attrs → Bool) (r : RowsData) → ((t : Attrs) → set.contains s t ≡ p t) → IsRelationOf h (λ t. p t ≡ true) r → IsRelation h s r
by_test h s p r same is = set_of h s r (by_predicate h (λ t. p t ≡ true) (λ t. set.contains s t ≡ true) r is (λ t. (λ e. same t ∙ e, λ e. sym (same t) ∙ e)))

abbrev pub KeptOf : Kept → RowsData → RowsData → Header → RowsData → Type 0
KeptOf k a b h r = IsRelationOf h (λ t. is_kept k (set.contains (body a) t) (set.contains (body b) t) ≡ true) r

in_any : (p q : Bool) → (p || q) ≡ is_kept (record { first = true; both = true; second = true }) p q
in_any true true = refl
in_any true false = refl
in_any false true = refl
in_any false false = refl

in_both : (p q : Bool) → (p && q) ≡ is_kept (record { first = false; both = true; second = false }) p q
in_both true true = refl
in_both true false = refl
in_both false true = refl
in_both false false = refl

in_first : (p q : Bool) → (p && not q) ≡ is_kept (record { first = true; both = false; second = false }) p q
in_first true true = refl
in_first true false = refl
in_first false true = refl
in_first false false = refl

in_second : (p q : Bool) → (q && not p) ≡ is_kept second_alone p q
in_second true true = refl
in_second true false = refl
in_second false true = refl
in_second false false = refl

module _ (h : Header) (a b r : RowsData) where
  pub union_of_kept : KeptOf (record { first = true; both = true; second = true }) a b h r → IsRelation h (set.union (body a) (body b)) r
  union_of_kept = by_test h _ _ r (λ t. set.contains-union attrs_order_total (body a) (body b) t ∙ in_any _ _)

  pub intersection_of_kept : KeptOf (record { first = false; both = true; second = false }) a b h r → IsRelation h (set.intersection (body a) (body b)) r
  intersection_of_kept = by_test h _ _ r (λ t. set.contains-intersection attrs_order_total (body a) (body b) t ∙ in_both _ _)

  pub difference_of_kept : KeptOf (record { first = true; both = false; second = false }) a b h r → IsRelation h (set.difference (body a) (body b)) r
  difference_of_kept = by_test h _ _ r (λ t. set.contains-difference attrs_order_total (body a) (body b) t ∙ in_first _ _)

  pub difference_of_second : KeptOf second_alone a b h r → IsRelation h (set.difference (body b) (body a)) r
  difference_of_second = by_test h _ _ r (λ t. set.contains-difference attrs_order_total (body b) (body a) t ∙ in_second _ _)

pub of_merge : (k : Kept) (a b : RowsData) (zs : List Attrs) → IsMerge k a.tuples b.tuples zs → KeptOf k a b a.heading (record { heading = a.heading; tuples = zs })
of_merge k a b zs is = record { heading = refl; only = λ t has. sym (is.members t) ∙ has; all = λ t p. is.members t ∙ p; ascending = is.ascending }

-- ---- subsets
pub subset_tested : (a b : RowsData) (x : Bool) → x ≡ list_all (set.contains (body b)) a.tuples → IsTrue x ↔ (set.is_subset (body a) (body b) ≡ true)
subset_tested a b x is = (
  λ t.
      let all = AllPass-from_list_all (set.contains (body b)) a.tuples (sym is ∙ t) in
      set.contains-is_subset attrs_order_total (body a) (body b) (λ q has. holds_of_member (λ u. set.contains (body b) u ≡ true) a.tuples q all has),
  λ s. is ∙ list_all-from_AllPass (set.contains (body b)) a.tuples (holds_of_all (λ u. set.contains (body b) u ≡ true) a.tuples (λ q has. set.is_subset-contains attrs_order_total (body a) (body b) s q has)),
)

-- ---- changes
-- what only the new relation has is apart from what only the old one has
pub difference_apart : (old new i d : RowsData) → body i ≡ set.difference (body new) (body old) → body d ≡ set.difference (body old) (body new) → (t : Attrs) → Has i t → ¬ (Has d t)
difference_apart old new i d in_new in_old t has_i has_d =
    let p = ap (λ s. set.contains s t) in_new ∙ set.contains-difference attrs_order_total (body new) (body old) t in
    let q = ap (λ s. set.contains s t) in_old ∙ set.contains-difference attrs_order_total (body old) (body new) t in
    never (set.contains (body new) t) (set.contains (body old) t) (sym p ∙ has_i) (sym q ∙ has_d)
  where
    never : (x y : Bool) → (x && not y) ≡ true → (y && not x) ≡ true → ⊥
    never true true e f = true≢false (sym e)
    never true false e f = true≢false (sym f)
    never false y e f = true≢false (sym e)
