-- Relations and tuples that are put into attributes and taken out of them have their headings.
use Rattle.std.proofs.Common.{◌≡◌, ℕ, List, [], ◌∷◌, map, Option, None, Some, refl, sym, ap, ◌∙◌, subst, Ok, Err, Bool, true, false, if◌then◌else◌}
use Rattle.std.specs.FinMap as by_name
use Rattle.std.specs.List.{filter, flat_map}
use Rattle.std.specs.Option.{option_map}
use Rattle.std.specs.Ordering.{eq_by_cmp}
use Rattle.td_values.specs.Attributes.{attribute_of}
use Rattle.td_values.specs.Data.{Ty, tuple_type, relation_type, Fields, Datum, tuple, relation, Attrs}
use Rattle.td_values.specs.Headings.{Header}
use Rattle.td_values.specs.Order.{attrs_order}
use Rattle.td_values.specs.Rows.{RowsData}
use Rattle.td_values.specs.Whole.{type_of}
use Rattle.td_tuples.specs.Nestings.{grouped_columns, wrapped_columns, opened_columns, columns_of_type, columns_inside, inner_columns}
use Rattle.td_tuples.specs.Parts.{is_in, is_out, cut, cut_off, columns_in, columns_out}
use Rattle.td_tuples.specs.Unions.{beside, with_attribute, with_column}
use Rattle.td_tuples.proofs.ByName.{fits_get}
use Rattle.td_tuples.proofs.Inner.{tuple_columns, relation_columns}
use Rattle.td_syntax.specs.declared.tree.Nesting.{Nesting}
use Rattle.td_syntax.specs.declared.tree.Nesting.TheVariants as nesting
use Rattle.td_algebra.specs.declared.errors.Stop.TheVariants.{Untyped}
use Rattle.td_algebra.specs.Functions.{group_at, grouping_of, wrap_of, open_of, ungroup_of, unwrap_of}
use Rattle.td_algebra.specs.Nested.{relation_value}
use Rattle.td_algebra.specs.ForProofs.Opened.{tuples_in, tuples_inside, tuples_at}
use Rattle.td_algebra.proofs.Lists.{In, in_map, in_filter, in_flat_map}
use Rattle.td_schema.specs.Forms.{nested_heading, nested_columns, unnested_heading, attribute_kind, inside}
use Rattle.td_schema.specs.Kinds.{Name, kind_of, is_new, are_new}
use Rattle.td_schema.specs.Results.{where_true, where_some}
use Rattle.td_schema.specs.Schemas.{SchemaData}
use Rattle.td_operators.specs.Operators.{nested_of, unnested_of, is_relation_type, is_tuple_type}
use Rattle.td_typing.proofs.KindLemmas as kinds
use Rattle.td_type_soundness.specs.Values.{IsValue}
use Rattle.td_type_soundness.specs.Meanings.{IsTupleOver, IsRelationOver, GivesRelation}
use Rattle.td_type_soundness.proofs.Errors.{Each, with_first}
use Rattle.td_type_soundness.proofs.Attributes.{value_at, has_part, has_with, has_beside}
use Rattle.td_type_soundness.proofs.Relations.{moved, of_list, of_image}
use Rattle.td_type_soundness.proofs.Shapes as shapes
use Rattle.td_type_soundness.proofs.Tables.{passed, inverted, tuple_kind, a_relation_type, a_tuple_type}
use Rattle.td_type_soundness.proofs.Values.{has_heading, relation_has, tuple_has, tuples_given}

module _ (s : SchemaData) where
  -- ---- group and wrap
  module _ (names : List (List ℕ)) (c : List ℕ) (r : RowsData) (is : IsRelationOver s r.heading r) where
    outer : (t : Attrs) → In t r.tuples → IsTupleOver s (columns_out names r.heading) (cut_off names t)
    outer t m = has_part s (is_out names) r.heading t (has_heading s r.heading r is t m)

    group_is : (v : Attrs) → IsRelationOver s (columns_in names r.heading) (group_at names r v)
    group_is v = of_image s (columns_in names r.heading) (columns_in names r.heading) (cut names) (filter (λ t. eq_by_cmp attrs_order (cut_off names t) v) r.tuples) refl (λ t m.
        let kept = in_filter (λ u. eq_by_cmp attrs_order (cut_off names u) v) r.tuples t m in
        has_part s (is_in names) r.heading t (has_heading s r.heading r is t kept.0))

    grouping_is : IsRelationOver s (grouped_columns names c r.heading) (grouping_of names c r)
    unfolding grouping_of
    grouping_is = of_image s (grouped_columns names c r.heading) (grouped_columns names c r.heading) (λ t. with_attribute c (relation_value (group_at names r (cut_off names t))) (cut_off names t)) r.tuples refl (λ t m.
        let group = relation_has s (columns_in names r.heading) (group_at names r (cut_off names t)) (group_is (cut_off names t)) in
        has_with s c (relation_value (group_at names r (cut_off names t))) (columns_out names r.heading) (cut_off names t) group.1 (outer t m))

    wrapped : (t : Attrs) → In t r.tuples → IsTupleOver s (wrapped_columns names c r.heading) (with_attribute c (tuple (cut names t)) (cut_off names t))
    wrapped t m =
        let part = tuple_has s (columns_in names r.heading) (cut names t) (has_part s (is_in names) r.heading t (has_heading s r.heading r is t m)) in
        subst (λ ty. IsTupleOver s (with_column c ty (columns_out names r.heading)) (with_attribute c (tuple (cut names t)) (cut_off names t))) part.0
        (has_with s c (tuple (cut names t)) (columns_out names r.heading) (cut_off names t) part.1 (outer t m))

    wrapping_is : IsRelationOver s (wrapped_columns names c r.heading) (wrap_of names c r)
    unfolding wrap_of
    wrapping_is = of_image s (wrapped_columns names c r.heading) (wrapped_columns names c r.heading) (λ t. with_attribute c (tuple (cut names t)) (cut_off names t)) r.tuples refl wrapped

  its_own : (h : Header) (r : RowsData) → IsRelationOver s h r → IsRelationOver s r.heading r
  its_own h r is = moved s h r.heading r (sym is.heading) is

  nested_by : (o : Nesting) (names : List (List ℕ)) (c : List ℕ) (r : RowsData) → IsRelationOver s r.heading r → IsRelationOver s (nested_columns o names c r.heading) (nested_of o names c r)
  nested_by nesting.Group names c r is = grouping_is names c r is
  nested_by nesting.Wrap names c r is = wrapping_is names c r is

  nesting_to : (o : Nesting) (names : List (List ℕ)) (c : List ℕ) (h g : Header) → nested_heading o names c h ≡ Some g → nested_columns o names c h ≡ g
  unfolding nested_heading
  nesting_to o names c h g e = (passed (is_new (columns_out names h) c) (nested_columns o names c h) g e).1

  pub nested_is : (o : Nesting) (names : List (List ℕ)) (c : List ℕ) (h g : Header) (r : RowsData) → nested_heading o names c h ≡ Some g → IsRelationOver s h r → IsRelationOver s g (nested_of o names c r)
  nested_is o names c h g r e is =
      moved s (nested_columns o names c r.heading) g (nested_of o names c r) (ap (nested_columns o names c) is.heading ∙ nesting_to o names c h g e)
      (nested_by o names c r (its_own h r is))

  -- ---- ungroup and unwrap
  -- the tuples inside a value
  abbrev AreInside : Ty → Datum → Type 0
  AreInside ty d = Each (IsTupleOver s (columns_inside (Some ty))) (tuples_in d)

  opened_at : (c : List ℕ) (h : Header) (ty : Ty) → by_name.get h c ≡ Some ty → ((d : Datum) → type_of d ≡ ty → IsValue s d → AreInside ty d) → (t : Attrs) → IsTupleOver s h t → Each (IsTupleOver s (inner_columns c h)) (tuples_at c t)
  opened_at c h ty is those t has = by (attribute_of c t) refl
    where
      by : (o : Option Datum) → attribute_of c t ≡ o → Each (IsTupleOver s (inner_columns c h)) (tuples_inside o)
      by None e = λ w m. absurd m
      by (Some d) e =
          let typed : Some ty ≡ Some (type_of d) = sym is ∙ fits_get h t has.0 c ∙ ap (option_map type_of) e in
          let one : ty ≡ type_of d = kinds.some_same ty (type_of d) typed in
          subst (λ o. Each (IsTupleOver s (columns_inside o)) (tuples_in d)) (sym is) (those d (sym one) (value_at s c t d has.1 e))

  opening_is : (c : List ℕ) (r : RowsData) → IsRelationOver s r.heading r → ((t : Attrs) → In t r.tuples → Each (IsTupleOver s (inner_columns c r.heading)) (tuples_at c t)) → IsRelationOver s (opened_columns c r.heading) (open_of c r)
  unfolding open_of
  opening_is c r is those =
      let opened : Attrs → List Attrs = λ t. map (beside (cut_off (c ∷ []) t)) (tuples_at c t) in
      of_list s (opened_columns c r.heading) (opened_columns c r.heading) (flat_map opened r.tuples) refl (λ u m.
      let at = in_flat_map opened r.tuples u m in
      let w = in_map (beside (cut_off (c ∷ []) at.0)) (tuples_at c at.0) u at.2 in
      subst (IsTupleOver s (opened_columns c r.heading)) (sym w.2)
      (has_beside s (columns_out (c ∷ []) r.heading) (inner_columns c r.heading) (cut_off (c ∷ []) at.0) w.0
      (has_part s (is_out (c ∷ [])) r.heading at.0 (has_heading s r.heading r is at.0 at.1))
      (those at.0 at.1 w.0 w.1)))

  of_relation : (fs : Fields) (d : Datum) → type_of d ≡ relation_type fs → IsValue s d → AreInside (relation_type fs) d
  of_relation fs d e v =
      let r = shapes.a_relation d fs e in
      let value : IsValue s (relation r.0 r.1) = subst (IsValue s) r.2 v in
      let inner : Header = value.0.0 in
      let back : inner ≡ columns_of_type (relation_type fs) = relation_columns (relation_type fs) inner (ap relation_type (sym value.0.1 ∙ r.3)) in
      subst (AreInside (relation_type fs)) (sym r.2) (λ t m. subst (λ k. IsTupleOver s k t) back (tuples_given s inner r.0 r.1 value.0.1 value.1 t m))

  of_tuple : (fs : Fields) (d : Datum) → type_of d ≡ tuple_type fs → IsValue s d → AreInside (tuple_type fs) d
  of_tuple fs d e v =
      let t = shapes.a_tuple d fs e in
      let value : IsValue s (tuple t.0) = subst (IsValue s) t.1 v in
      let inner : Header = value.0.0 in
      let back : inner ≡ columns_of_type (tuple_type fs) = tuple_columns (tuple_type fs) inner (ap tuple_type (sym value.0.1 ∙ t.2)) in
      subst (AreInside (tuple_type fs)) (sym t.1)
      (with_first (IsTupleOver s (columns_of_type (tuple_type fs))) t.0 [] (subst (λ k. IsTupleOver s k t.0) back (value.0.1, value.1)) (λ u m. absurd m))

  -- what the table says
  unnesting : (o : Nesting) (c : Name) (h g : Header) → unnested_heading o c h ≡ Some g → (ty : Ty) × (by_name.get h c ≡ Some ty) × (i : Header) × (inside o (kind_of ty) ≡ Some i) × (opened_columns c h ≡ g)
  unfolding unnested_heading attribute_kind
  unnesting o c h g e =
      let p = inverted (where_some (by_name.get h c) (λ ty. Some (kind_of ty))) (λ k. where_some (inside o k) (λ i. where_true (are_new (by_name.keys i) (columns_out (c ∷ []) h)) (opened_columns c h))) g e in
      let q = inverted (by_name.get h c) (λ ty. Some (kind_of ty)) p.0 p.1 in
      let r = inverted (inside o p.0) (λ i. where_true (are_new (by_name.keys i) (columns_out (c ∷ []) h)) (opened_columns c h)) g p.2 in
      let w = passed (are_new (by_name.keys r.0) (columns_out (c ∷ []) h)) (opened_columns c h) g r.2 in
      (q.0, q.1, r.0, ap (inside o) (kinds.some_same (kind_of q.0) p.0 q.2) ∙ r.1, w.1)

  tested : (b : Bool) (g : Header) (r : RowsData) → b ≡ true → IsRelationOver s g r → GivesRelation s g (if b then Ok r else Err Untyped)
  tested true g r e is = is
  tested false g r e is = absurd (cc)

  module _ (c : Name) (h g : Header) (r : RowsData) (is : IsRelationOver s h r) (ty : Ty) (here : by_name.get h c ≡ Some ty) (result : opened_columns c h ≡ g) (those : (d : Datum) → type_of d ≡ ty → IsValue s d → AreInside ty d) where
    open_is : IsRelationOver s g (open_of c r)
    open_is =
        let own = its_own h r is in
        moved s (opened_columns c r.heading) g (open_of c r) (ap (opened_columns c) is.heading ∙ result)
        (opening_is c r own (λ t m. opened_at c r.heading ty (ap (λ k. by_name.get k c) is.heading ∙ here) those t (has_heading s r.heading r own t m)))

    ungroup_is : IsRelationOver s g (ungroup_of c r)
    unfolding ungroup_of
    ungroup_is = open_is

    unwrap_is : IsRelationOver s g (unwrap_of c r)
    unfolding unwrap_of
    unwrap_is = open_is

  pub unnested_is : (o : Nesting) (c : Name) (h g : Header) (r : RowsData) → unnested_heading o c h ≡ Some g → IsRelationOver s h r → GivesRelation s g (unnested_of o c r)
  unnested_is nesting.Group c h g r e is =
      let p = unnesting nesting.Group c h g e in
      let q = a_relation_type p.0 p.2 (kinds.relation (kind_of p.0) p.2 p.3) in
      let here : by_name.get h c ≡ Some (relation_type q.0) = p.1 ∙ ap Some q.1 in
      tested (is_relation_type (by_name.get r.heading c)) g (ungroup_of c r) (ap is_relation_type (ap (λ k. by_name.get k c) is.heading ∙ here))
      (ungroup_is c h g r is (relation_type q.0) here p.4 (of_relation q.0))
  unnested_is nesting.Wrap c h g r e is =
      let p = unnesting nesting.Wrap c h g e in
      let q = a_tuple_type p.0 p.2 (tuple_kind (kind_of p.0) p.2 p.3) in
      let here : by_name.get h c ≡ Some (tuple_type q.0) = p.1 ∙ ap Some q.1 in
      tested (is_tuple_type (by_name.get r.heading c)) g (unwrap_of c r) (ap is_tuple_type (ap (λ k. by_name.get k c) is.heading ∙ here))
      (unwrap_is c h g r is (tuple_type q.0) here p.4 (of_tuple q.0))
