-- One tuple in place of another one that agrees with it at some names.
use Rattle.std.proofs.Common.{◌≡◌, ℕ, zero, suc, Bool, true, false, ◌||◌, inl, inr, List, [], ◌∷◌, refl, sym, ap, ◌∙◌, subst, true≢false, arith}
use Rattle.std.specs.FinSet as set
use Rattle.std.specs.List.{All}
use Rattle.std.specs.Ordering.{eq_by_cmp}
use Rattle.td_values.specs.Attributes.{attribute_of}
use Rattle.td_values.specs.Data.{Attrs}
use Rattle.td_values.specs.Headings.{Header}
use Rattle.td_values.specs.Order.{attrs_order, text_cmp}
use Rattle.td_values.specs.Rows.{RowsData}
use Rattle.td_values.specs.Proving.Total.{attrs_order_total}
use Rattle.td_values.proofs.Walks.{is_tied}
use Rattle.td_tuples.specs.Parts.{Fits, cut, is_in}
use Rattle.td_tuples.proofs.ByName.{fits_sorted}
use Rattle.td_tuples.proofs.Lists.{same_name}
use Rattle.td_relations.specs.Deltas.{DeltaData}
use Rattle.td_relations.specs.Sets.{Has, tuple_set}
use Rattle.td_relations.proofs.Members.{contains_listed}
use Rattle.td_algebra.proofs.ByKey.{all_named, part_of_values}
use Rattle.td_algebra.proofs.Lists.{In, contains_in}
use Rattle.td_algebra.proofs.PlacedParts.{itself}
use Rattle.td_integrity.specs.ForProofs.Leaving.{LeavesParts}

module _ (t u : Attrs) where
  at_each : (ns : List (List ℕ)) → All (λ n. attribute_of n t ≡ attribute_of n u) ns → (n : List ℕ) → is_in ns n ≡ true → attribute_of n t ≡ attribute_of n u
  at_each [] all n there = absurd (true≢false (sym there))
  at_each (m ∷ ns) all n there =
      elim (eq_by_cmp text_cmp n m) as (λ b. eq_by_cmp text_cmp n m ≡ b → (b || is_in ns n) ≡ true → attribute_of n t ≡ attribute_of n u) [
        | true ↦ λ e _. subst (λ k. attribute_of k t ≡ attribute_of k u) (sym (same_name n m (is_tied _ e))) (all zero m (omega arith))
        | false ↦ λ e rest. at_each ns (λ k d lt. all (suc k) d (omega (arith, lt))) n rest
      ] refl there

  pub same_parts : (h : Header) (names : List (List ℕ)) → Fits h t → Fits h u → All (λ n. attribute_of n t ≡ attribute_of n u) names → cut names t ≡ cut names u
  same_parts h names f g all = part_of_values t u names (fits_sorted h t f) (fits_sorted h u g) (all_named t u names (at_each names all))

only_one : (ts : List Attrs) (t q : Attrs) → ts ≡ t ∷ [] → In q ts → q ≡ t
only_one ts t q is there = elim (subst (In q) is there) [ inl same ↦ same | inr none ↦ absurd none ]

pub one_leaves : (names : List (List ℕ)) (d : DeltaData) (gone more : Attrs) → d.deleted.tuples ≡ gone ∷ [] → d.inserted.tuples ≡ more ∷ [] → cut names more ≡ cut names gone → LeavesParts names d
one_leaves names d gone more one other same t has =
    let is : t ≡ gone = only_one d.deleted.tuples gone t one (contains_in d.deleted.tuples t ((contains_listed d.deleted.tuples t).0 has)) in
    let there : Has d.inserted more = ap (λ ts. set.contains (tuple_set ts) more) other ∙ set.contains-from_list attrs_order_total (more ∷ []) more ∙ ap (λ b. b || false) (itself more) in
    (more, there, same ∙ ap (cut names) (sym is))

pub first_fits : (r : RowsData) (t : Attrs) → All (Fits r.heading) r.tuples → r.tuples ≡ t ∷ [] → Fits r.heading t
first_fits r t fit is = subst (All (Fits r.heading)) is fit zero t (omega arith)
