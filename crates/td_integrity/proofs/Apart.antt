-- A key tells the tuples of a relation apart.
use Rattle.std.proofs.Common.{◌≡◌, ◌↔◌, ℕ, inl, inr, Bool, true, false, not, ◌&&◌, List, [], ◌∷◌, refl, sym, ap, ◌∙◌, subst, true≢false}
use Rattle.std.specs.List.{list_any}
use Rattle.std.specs.List.Sorted.{IsStrictlySortedBy}
use Rattle.std.specs.Ordering.{eq_by_cmp}
use Rattle.td_values.specs.Data.{Attrs}
use Rattle.td_values.specs.Order.{attrs_order}
use Rattle.td_values.specs.Proving.Total.{attrs_order_total}
use Rattle.td_values.specs.Rows.{RowsData}
use Rattle.td_relations.proofs.Sorted.{none_above}
use Rattle.td_tuples.specs.Parts.{cut}
use Rattle.td_algebra.specs.Keys.{TellApart}
use Rattle.td_algebra.proofs.Lists.{In, any_in, in_any}
use Rattle.td_algebra.proofs.Made.{has_in, in_has}
use Rattle.td_algebra.proofs.PlacedParts.{itself, same_key}
use Rattle.td_semantics.specs.Tests.{agree, is_key}

both : (a b : Bool) → (not a && b) ≡ true → (a ≡ false) × (b ≡ true)
both true b h = cc
both false b h = (refl, h)

neither : (a b : Bool) → a ≡ false → b ≡ true → (not a && b) ≡ true
neither true b p q = cc
neither false b p q = q

is_false : (b : Bool) → (b ≡ true → ⊥) → b ≡ false
is_false true h = absurd (h refl)
is_false false h = refl

module _ (key : List (List ℕ)) where
  abbrev TellsApart : List Attrs → Type 0
  TellsApart ts = (t u : Attrs) → In t ts → In u ts → cut key t ≡ cut key u → t ≡ u

  agrees : (t u : Attrs) → cut key t ≡ cut key u → agree key t u ≡ true
  agrees t u e = subst (λ z. eq_by_cmp attrs_order (cut key t) z ≡ true) e (itself (cut key t))

  -- none behind the first agrees with it
  alone : {P : Type 0} (w u : Attrs) (ws : List Attrs) → list_any (agree key w) ws ≡ false → In u ws → cut key w ≡ cut key u → P
  alone w u ws none h e = absurd (true≢false (sym (any_in (agree key w) ws u h (agrees w u e)) ∙ none))

  tells_apart : (ts : List Attrs) → is_key key ts ≡ true → TellsApart ts
  tells_apart [] h t u p q e = absurd p
  tells_apart (w ∷ ws) h t u (inl p) (inl q) e = p ∙ sym q
  tells_apart (w ∷ ws) h t u (inl p) (inr q) e = alone w u ws (both (list_any (agree key w) ws) (is_key key ws) h).0 q (ap (cut key) (sym p) ∙ e)
  tells_apart (w ∷ ws) h t u (inr p) (inl q) e = alone w t ws (both (list_any (agree key w) ws) (is_key key ws) h).0 p (ap (cut key) (sym q) ∙ sym e)
  tells_apart (w ∷ ws) h t u (inr p) (inr q) e = tells_apart ws (both (list_any (agree key w) ws) (is_key key ws) h).1 t u p q e

  not_again : (w : Attrs) (ws : List Attrs) → IsStrictlySortedBy attrs_order (w ∷ ws) → In w ws → ⊥
  unfolding IsStrictlySortedBy
  not_again w ws sorted h = true≢false (sym (any_in (eq_by_cmp attrs_order w) ws w h (itself w)) ∙ none_above attrs_order_total w ws sorted.0)

  behind : (w : Attrs) (ws : List Attrs) → IsStrictlySortedBy attrs_order (w ∷ ws) → IsStrictlySortedBy attrs_order ws
  unfolding IsStrictlySortedBy
  behind w ws sorted = sorted.1

  told_apart : (ts : List Attrs) → IsStrictlySortedBy attrs_order ts → TellsApart ts → is_key key ts ≡ true
  told_apart [] sorted h = refl
  told_apart (w ∷ ws) sorted h =
      neither (list_any (agree key w) ws) (is_key key ws)
      (is_false (list_any (agree key w) ws) (λ some.
      let u = in_any (agree key w) ws some in
      not_again w ws sorted (subst (λ z. In z ws) (sym (h w u.0 (inl refl) (inr u.1) (same_key (cut key w) (cut key u.0) u.2))) u.1)))
      (told_apart ws (behind w ws sorted) (λ t u p q e. h t u (inr p) (inr q) e))

  pub keys_apart : (r : RowsData) → IsStrictlySortedBy attrs_order r.tuples → (is_key key r.tuples ≡ true) ↔ TellApart key r
  keys_apart r sorted = (
    λ h t u p q e. tells_apart r.tuples h t u (has_in r t p) (has_in r u q) e,
    λ h. told_apart r.tuples sorted (λ t u p q e. h t u (in_has r t p) (in_has r u q) e),
  )
