-- Relations that operators make: their tuples have the heading.
use Rattle.std.proofs.Common.{◌≡◌, ℕ, List, [], ◌∷◌, map, refl, sym, ap, ◌∙◌, subst, inl, inr, ◌⊎◌}
use Rattle.std.specs.FinSet as set
use Rattle.std.specs.List.{filter, flat_map}
use Rattle.td_values.specs.Data.{Attrs, no_attrs, fields_of}
use Rattle.td_values.specs.Headings.{Header}
use Rattle.std.specs.FinMap as by_name
use Rattle.td_values.specs.Rows.{RowsData}
use Rattle.td_relations.specs.Sets.{body, Has, IsRelationOf, tuple_set}
use Rattle.td_relations.proofs.Members.{relation_of_is}
use Rattle.td_relations.proofs.Predicates.{of_union, of_intersection, of_difference}
use Rattle.td_tuples.specs.Parts.{Fits, is_in, cut, columns_in}
use Rattle.td_tuples.specs.Renamings.{renamed, renamed_columns}
use Rattle.td_tuples.specs.Unions.{beside, joined, composed_columns, lone_names}
use Rattle.td_tuples.proofs.Lists.{entries-from_entries}
use Rattle.td_algebra.specs.Functions.{relation_from, union_of, intersect_of, minus_of, project_of, rename_of, agrees, join_of, matching_of, not_matching_of, compose_of}
use Rattle.td_algebra.specs.ForProofs.Index.{is_matched}
use Rattle.td_algebra.proofs.Grouping.{listed}
use Rattle.td_algebra.proofs.Lists.{in_all, in_map, in_filter, in_flat_map}
use Rattle.td_algebra.proofs.Made.{has_in, in_has}
use Rattle.td_schema.specs.Schemas.{SchemaData}
use Rattle.td_operators.specs.Operators.{table_dee}
use Rattle.td_type_soundness.specs.Meanings.{IsTupleOver, IsRelationOver}
use Rattle.td_type_soundness.proofs.Errors.{Each}
use Rattle.td_type_soundness.proofs.Attributes.{has_part, has_beside, has_renamed}
use Rattle.td_type_soundness.proofs.Values.{has_heading}

module _ (s : SchemaData) where
  pub moved : (h k : Header) (r : RowsData) → h ≡ k → IsRelationOver s h r → IsRelationOver s k r
  moved h k r e is = subst (λ g. IsRelationOver s g r) e is

  -- ---- of lists of tuples, and of sets
  pub of_list : (h k : Header) (ts : List Attrs) → k ≡ h → Each (IsTupleOver s h) ts → IsRelationOver s h (relation_from k ts)
  of_list h k ts e each = record {
    heading = e;
    tuples = in_all (IsTupleOver s h) (relation_from k ts).tuples (λ t m. each t (listed k ts (relation_from k ts) (relation_of_is k (tuple_set ts)) t m));
  }

  pub of_image : (h k : Header) (f : Attrs → Attrs) (ts : List Attrs) → k ≡ h → Each (λ t. IsTupleOver s h (f t)) ts → IsRelationOver s h (relation_from k (map f ts))
  of_image h k f ts e each = of_list h k (map f ts) e (λ u m. let i = in_map f ts u m in subst (IsTupleOver s h) (sym i.2) (each i.0 i.1))

  of_members : (h k : Header) (P : Attrs → Type 0) (n : RowsData) → IsRelationOf k P n → k ≡ h → ((t : Attrs) → P t → IsTupleOver s h t) → IsRelationOver s h n
  of_members h k P n made e each = record {
    heading = made.heading ∙ e;
    tuples = in_all (IsTupleOver s h) n.tuples (λ t m. each t (made.only t (in_has n t m)));
  }

  none_fits : Fits by_name.empty no_attrs
  none_fits = sym (ap fields_of (entries-from_entries [] tt))

  pub dee_is : IsRelationOver s by_name.empty table_dee
  dee_is = of_list by_name.empty by_name.empty (no_attrs ∷ []) refl (λ t m. elim m [ inl e ↦ subst (IsTupleOver s by_name.empty) (sym e) (none_fits, tt) | inr none ↦ absurd none ])

  -- ---- sets
  module _ (h : Header) (q r : RowsData) (a : IsRelationOver s h q) where
    member : (t : Attrs) → Has q t → IsTupleOver s h t
    member t has = has_heading s h q a t (has_in q t has)

    pub union_is : IsRelationOver s h r → IsRelationOver s h (union_of q r)
    unfolding union_of
    union_is b = of_members h q.heading (λ t. Has q t ⊎ Has r t) (union_of q r)
        (of_union q.heading q r (union_of q r) (relation_of_is q.heading (set.union (body q) (body r))))
        a.heading
        (λ t either. elim either [ inl x ↦ member t x | inr y ↦ has_heading s h r b t (has_in r t y) ])

    pub intersection_is : IsRelationOver s h (intersect_of q r)
    unfolding intersect_of
    intersection_is = of_members h q.heading (λ t. Has q t × Has r t) (intersect_of q r)
        (of_intersection q.heading q r (intersect_of q r) (relation_of_is q.heading (set.intersection (body q) (body r))))
        a.heading
        (λ t both. member t both.0)

    pub difference_is : IsRelationOver s h (minus_of q r)
    unfolding minus_of
    difference_is = of_members h q.heading (λ t. Has q t × ¬ Has r t) (minus_of q r)
        (of_difference q.heading q r (minus_of q r) (relation_of_is q.heading (set.difference (body q) (body r))))
        a.heading
        (λ t both. member t both.0)

    pub matching_is : IsRelationOver s h (matching_of q r)
    unfolding matching_of
    matching_is = of_list h q.heading (filter (is_matched q.heading r.heading r.tuples) q.tuples) a.heading (λ t m.
        let kept = in_filter (is_matched q.heading r.heading r.tuples) q.tuples t m in
        has_heading s h q a t kept.0)

  pub not_matching_is : (h : Header) (q r : RowsData) → IsRelationOver s h q → IsRelationOver s h (not_matching_of q r)
  unfolding not_matching_of
  not_matching_is h q r a = difference_is h q (matching_of q r) a

  -- ---- parts
  pub projection_is : (names : List (List ℕ)) (h : Header) (r : RowsData) → IsRelationOver s h r → IsRelationOver s (columns_in names h) (project_of names r)
  unfolding project_of
  projection_is names h r is = of_image (columns_in names h) (columns_in names r.heading) (cut names) r.tuples (ap (columns_in names) is.heading) (λ t m. has_part s (is_in names) h t (has_heading s h r is t m))

  pub renaming_is : (items : List (List ℕ × List ℕ)) (h : Header) (r : RowsData) → IsRelationOver s h r → IsRelationOver s (renamed_columns items h) (rename_of items r)
  unfolding rename_of
  renaming_is items h r is = of_image (renamed_columns items h) (renamed_columns items r.heading) (renamed items) r.tuples (ap (renamed_columns items) is.heading) (λ t m. has_renamed s items h t (has_heading s h r is t m))

  -- ---- joins
  module _ (g h : Header) (q r : RowsData) (a : IsRelationOver s g q) (b : IsRelationOver s h r) where
    abbrev pairs_at : Attrs → List Attrs
    pairs_at t = map (beside t) (filter (agrees q.heading r.heading t) r.tuples)

    pub join_is : IsRelationOver s (joined g h) (join_of q r)
    unfolding join_of
    join_is = of_list (joined g h) (joined q.heading r.heading) (flat_map pairs_at q.tuples) (λ i. joined (a.heading i) (b.heading i)) (λ w m.
        let at = in_flat_map pairs_at q.tuples w m in
        let pair = in_map (beside at.0) (filter (agrees q.heading r.heading at.0) r.tuples) w at.2 in
        let kept = in_filter (agrees q.heading r.heading at.0) r.tuples pair.0 pair.1 in
        subst (IsTupleOver s (joined g h)) (sym pair.2) (has_beside s g h at.0 pair.0 (has_heading s g q a at.0 at.1) (has_heading s h r b pair.0 kept.0)))

    pub composition_is : IsRelationOver s (composed_columns g h) (compose_of q r)
    unfolding compose_of
    composition_is =
        moved (columns_in (lone_names q.heading r.heading) (joined g h)) (composed_columns g h) (compose_of q r) (λ i. columns_in (lone_names (a.heading i) (b.heading i)) (joined g h))
        (projection_is (lone_names q.heading r.heading) (joined g h) (join_of q r) join_is)
