-- The transitive closure has the heading.
use Rattle.std.proofs.Common.{◌≡◌, ℕ, Bool, true, false, cond, if◌then◌else◌, List, [], ◌∷◌, ◌++◌, map, Option, None, Some, refl, sym, ap, ◌∙◌, subst, inl, inr}
use Rattle.std.specs.declared.cmp.Ordering.{Ordering}
use Rattle.std.specs.declared.cmp.Ordering.TheVariants.{Less, Equal, Greater}
use Rattle.std.specs.FinMap as by_name
use Rattle.std.specs.List.{filter, flat_map, fold}
use Rattle.std.specs.Option.{option_map}
use Rattle.std.specs.Ordering.{is_eq}
use Rattle.td_values.specs.Attributes.{attribute_of}
use Rattle.td_values.specs.Data.{Ty, Datum, Attrs}
use Rattle.td_values.specs.Headings.{Header}
use Rattle.td_values.specs.Order.{text_cmp}
use Rattle.td_values.specs.Rows.{RowsData}
use Rattle.td_values.specs.TextOrder.{text_total}
use Rattle.td_values.specs.Whole.{type_of}
use Rattle.td_tuples.specs.Unions.{with_column}
use Rattle.td_tuples.proofs.Lists.{same_name}
use Rattle.td_tuples.proofs.ByName.{fits_get}
use Rattle.td_algebra.specs.ForProofs.Steps.{has_value, links, replaced, with_value}
use Rattle.td_algebra.specs.Functions.{with_through, with_through_end, tclose_of}
use Rattle.td_algebra.proofs.Lists.{In, in_append, in_map, in_filter, in_flat_map}
use Rattle.td_schema.specs.Schemas.{SchemaData}
use Rattle.td_type_soundness.specs.Meanings.{IsTupleOver, IsRelationOver}
use Rattle.td_type_soundness.proofs.Attributes.{value_at, has_with}
use Rattle.td_type_soundness.proofs.Relations.{of_list}
use Rattle.td_type_soundness.proofs.Values.{has_heading}

-- a column that is there, of the type that it has
same_column : (n : List ℕ) (ty : Ty) (h : Header) → by_name.get h n ≡ Some ty → with_column n ty h ≡ h
same_column n ty h is = by_name.same_map text_total same_name (with_column n ty h) h (λ q. by_name.get-insert text_total h n ty q ∙ at q (text_cmp q n) refl)
  where
    at : (q : List ℕ) (o : Ordering) → text_cmp q n ≡ o → cond (is_eq o) (Some ty) (by_name.get h q) ≡ by_name.get h q
    at q Less e = refl
    at q Equal e = sym (ap (by_name.get h) (same_name q n e) ∙ is)
    at q Greater e = refl

in_either : (b : Bool) (us : List Attrs) (w : Attrs) → In w (if b then us else []) → In w us
in_either true us w m = m
in_either false us w m = absurd m

module _ (s : SchemaData) (h : Header) where
  -- ---- a tuple with another one's value
  valued : (n : List ℕ) (t u : Attrs) → IsTupleOver s h t → IsTupleOver s h u → (o : Option Datum) → attribute_of n u ≡ o → IsTupleOver s h (with_value n t o)
  valued n t u has have None is = has
  valued n t u has have (Some d) is =
      subst (λ g. IsTupleOver s g (with_value n t (Some d))) (same_column n (type_of d) h (fits_get h u have.0 n ∙ ap (option_map type_of) is))
      (has_with s n d h t (value_at s n u d have.1 is) has)

  linked : (n : List ℕ) (z : Datum) (us : List Attrs) (t w : Attrs) → IsTupleOver s h t → ((u : Attrs) → In u us → IsTupleOver s h u) → In w (links n z us t) → IsTupleOver s h w
  linked n z us t w has have m =
      let i = in_map (replaced n t) us w (in_either (has_value n z t) (map (replaced n t) us) w m) in
      subst (IsTupleOver s h) (sym i.2) (valued n t i.0 has (have i.0 i.1) (attribute_of n i.0) refl)

  -- ---- a step, and all steps
  through_is : (a b : List ℕ) (o : Option Datum) (r : RowsData) → IsRelationOver s h r → IsRelationOver s h (with_through a b o r)
  through_is a b None r is = is
  through_is a b (Some z) r is =
      let us = filter (has_value a z) r.tuples in
      of_list s h r.heading (r.tuples ++ flat_map (links b z us) r.tuples) is.heading (λ w m. elim (in_append r.tuples (flat_map (links b z us) r.tuples) w m) [
        | inl old ↦ has_heading s h r is w old
        | inr new ↦
            let at = in_flat_map (links b z us) r.tuples w new in
            linked b z us at.0 w (has_heading s h r is at.0 at.1) (λ u k. has_heading s h r is u (in_filter (has_value a z) r.tuples u k).0) at.2
      ])

  end_is : (fs : List (List ℕ × Ty)) (r : RowsData) (t : Attrs) → IsRelationOver s h r → IsRelationOver s h (with_through_end fs r t)
  end_is [] r t is = is
  end_is (f ∷ []) r t is = is
  end_is (f ∷ g ∷ []) r t is = through_is f.0 g.0 (attribute_of g.0 t) r is
  end_is (f ∷ g ∷ k ∷ fs) r t is = is

  ends_are : (fs : List (List ℕ × Ty)) (r : RowsData) (ts : List Attrs) → IsRelationOver s h r → IsRelationOver s h (fold (with_through_end fs) r ts)
  ends_are fs r [] is = is
  ends_are fs r (t ∷ ts) is = ends_are fs (with_through_end fs r t) ts (end_is fs r t is)

  pub closure_is : (r : RowsData) → IsRelationOver s h r → IsRelationOver s h (tclose_of r)
  unfolding tclose_of
  closure_is r is = ends_are (by_name.entries r.heading) r r.tuples is
