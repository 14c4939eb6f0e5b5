-- Relations whose attributes are put into tuples.
use Rattle.std.proofs.Common.{◌≡◌, ℕ, List, map, sym, ap, ◌∙◌, subst}
use Rattle.std.specs.FinSet as set
use Rattle.std.specs.List.{All}
use Rattle.td_values.specs.Data.{tuple, tuple_type, Attrs}
use Rattle.td_values.specs.Headings.{Header, header_fields}
use Rattle.td_values.specs.Rows.{RowsData, AreRows}
use Rattle.td_relations.specs.Sets.{Has, IsRelation, IsRelationOf}
use Rattle.td_tuples.specs.Parts.{Fits, names_of, is_in, is_out, cut, cut_off, columns_in, columns_out}
use Rattle.td_tuples.specs.Unions.{with_attribute, with_column}
use Rattle.td_tuples.proofs.ByName.{fits-where, fits-with, part_by_columns}
use Rattle.td_algebra.specs.ForProofs.Index.{wrapped}
use Rattle.td_tuples.specs.Nestings.{wrapped_columns}
use Rattle.td_algebra.specs.Nested.{Wrapped}
use Rattle.td_algebra.proofs.Made.{has_fits, image_fits, image_made}

module _ (r : RowsData) (rows : AreRows r.heading r.tuples) (names : List (List ℕ)) (inner outer : Header) (i : inner ≡ columns_in names r.heading) (o : outer ≡ columns_out names r.heading) where
  pub inner_part : (t : Attrs) → Has r t → cut (names_of inner) t ≡ cut names t
  inner_part t has = ap (λ w. cut (names_of w) t) i ∙ part_by_columns (is_in names) r.heading t (has_fits r rows t has)

  pub outer_part : (t : Attrs) → Has r t → cut (names_of outer) t ≡ cut_off names t
  outer_part t has = ap (λ w. cut (names_of w) t) o ∙ part_by_columns (is_out names) r.heading t (has_fits r rows t has)

  pub inner_fits : (t : Attrs) → Has r t → Fits inner (cut names t)
  inner_fits t has = subst (λ w. Fits w (cut names t)) (sym i) (fits-where (is_in names) r.heading t (has_fits r rows t has))

  pub outer_fits : (t : Attrs) → Has r t → Fits outer (cut_off names t)
  outer_fits t has = subst (λ w. Fits w (cut_off names t)) (sym o) (fits-where (is_out names) r.heading t (has_fits r rows t has))

  module _ (c : List ℕ) (h : Header) (e : h ≡ with_column c (tuple_type (header_fields inner)) outer) (xs out : List Attrs) (is : xs ≡ r.tuples) (image : out ≡ map (wrapped (names_of inner) (names_of outer) c) xs) where
    goal_of : Attrs → Attrs
    goal_of t = with_attribute c (tuple (cut names t)) (cut_off names t)

    same : (t : Attrs) → Has r t → wrapped (names_of inner) (names_of outer) c t ≡ with_attribute c (tuple (cut names t)) (cut_off names t)
    same t has = λ k. with_attribute c (tuple (inner_part t has k)) (outer_part t has k)

    pub wrapped_fit : All (Fits h) out
    wrapped_fit = image_fits r (wrapped (names_of inner) (names_of outer) c) (λ t. with_attribute c (tuple (cut names t)) (cut_off names t)) same xs out is image h
        (λ t has. subst (λ w. Fits w (with_attribute c (tuple (cut names t)) (cut_off names t)))
        (ap (λ fs. with_column c (tuple_type fs) outer) (inner_fits t has) ∙ sym e)
        (fits-with c (tuple (cut names t)) outer (cut_off names t) (outer_fits t has)))

    pub wrapped_made : (n : RowsData) → IsRelation h (set.from_list out) n → IsRelationOf (wrapped_columns names c r.heading) (Wrapped names c r) n
    wrapped_made n made_of = image_made r (wrapped (names_of inner) (names_of outer) c) (λ t. with_attribute c (tuple (cut names t)) (cut_off names t)) same xs out is image h (wrapped_columns names c r.heading) n made_of
        (e ∙ (λ k. with_column c (tuple_type (header_fields (i k))) (o k)))
