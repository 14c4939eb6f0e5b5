-- Inserted tuples are told from all others where each finds itself alone in an index of all.
use Rattle.std.proofs.Common.{◌≡◌, ◌↔◌, ℕ, Bool, true, IsTrue, List, refl, sym, ap, ◌∙◌, subst, true≢false}
use Rattle.std.specs.FinSet as set
use Rattle.std.specs.List.{filter, list_all}
use Rattle.std.specs.Ordering.{eq_by_cmp}
use Rattle.td_values.specs.Data.{Attrs}
use Rattle.td_values.specs.Order.{attrs_order}
use Rattle.td_values.specs.Rows.{RowsData}
use Rattle.td_relations.specs.Sets.{body}
use Rattle.td_tuples.specs.Parts.{cut}
use Rattle.td_algebra.specs.KeyIndexes.{KeyIndexData, IsKeyIndex}
use Rattle.td_algebra.specs.Keys.{TellApartFrom, shares_part}
use Rattle.td_algebra.proofs.Lists.{In, filter_in, in_filter}
use Rattle.td_algebra.proofs.Made.{has_in, in_has}
use Rattle.td_algebra.proofs.Pairs.{entry_of, of_entry}
use Rattle.td_algebra.proofs.PlacedParts.{itself, same_key}
use Rattle.td_algebra.proofs.Told.{all_pass, pass_all}
use Rattle.td_integrity.specs.ForProofs.Found.{finds_itself}

module _ (key : List (List ℕ)) (i r : RowsData) (x : KeyIndexData) (is : IsKeyIndex key r x) where
  by_own : TellApartFrom x.key i r ↔ TellApartFrom key i r
  by_own = (λ h. subst (λ k. TellApartFrom k i r) is.key h, λ h. subst (λ k. TellApartFrom k i r) (sym is.key) h)

  shares : (t u : Attrs) → cut x.key t ≡ cut x.key u → shares_part x.key t u ≡ true
  shares t u same = subst (λ w. eq_by_cmp attrs_order (cut x.key u) w ≡ true) (sym same) (itself (cut x.key u))

  pub by_searches : (b : Bool) → b ≡ list_all (finds_itself x) i.tuples → IsTrue b ↔ TellApartFrom key i r
  by_searches b told = (
    λ h. by_own.0 (λ t u new has same.
        let there : In u (filter (shares_part x.key t) x.tuples) = filter_in (shares_part x.key t) x.tuples u (of_entry r x.tuples is.tuples u has) (shares t u same) in
        sym (same_key u t (all_pass (λ w. eq_by_cmp attrs_order w t) (filter (shares_part x.key t) x.tuples) (all_pass (finds_itself x) i.tuples (sym told ∙ h) t (has_in i t new)) u there))),
    λ h. told ∙ pass_all (finds_itself x) i.tuples (λ t m.
        pass_all (λ w. eq_by_cmp attrs_order w t) (filter (shares_part x.key t) x.tuples) (λ u n.
        let kept = in_filter (shares_part x.key t) x.tuples u n in
        let one = by_own.1 h t u (in_has i t m) (entry_of r x.tuples is.tuples u kept.0) (sym (same_key _ _ kept.1)) in
        subst (λ w. eq_by_cmp attrs_order w t ≡ true) one (itself t))),
  )

-- where none is inserted, none is like another one
pub none_to_tell : (key : List (List ℕ)) (i r : RowsData) → body i ≡ set.empty → IsTrue true ↔ TellApartFrom key i r
none_to_tell key i r none = (
  λ _ t u new. absurd (true≢false (sym new ∙ ap (λ w. set.contains w t) none ∙ set.contains-empty attrs_order t)),
  λ _. refl,
)
