-- Parts tell the tuples that came from all others where each tuple finds no other one among those that came.
use Rattle.std.proofs.Common.{◌≡◌, ◌↔◌, ◌⊎◌, inl, inr, ℕ, Bool, true, false, IsTrue, ◌&&◌, List, [], ◌∷◌, refl, sym, ap, ◌∙◌, subst, true≢false}
use Rattle.std.specs.FinSet as set
use Rattle.std.specs.List.{filter, list_all}
use Rattle.std.specs.Ordering.{eq_by_cmp}
use Rattle.td_values.specs.Data.{Attrs}
use Rattle.td_values.specs.Headings.{Header}
use Rattle.td_values.specs.Order.{attrs_order}
use Rattle.td_values.specs.Rows.{RowsData}
use Rattle.td_relations.specs.Deltas.{DeltaData, IsDifference}
use Rattle.td_relations.specs.Sets.{Has, body}
use Rattle.td_relations.proofs.Predicates.{of_difference}
use Rattle.td_tuples.specs.Parts.{cut, columns_in, is_in, names_of}
use Rattle.td_algebra.specs.declared.index.TupleIndex.{TupleIndex}
use Rattle.td_algebra.specs.ForProofs.Index.{IsIndex, are_all, found, has_part}
use Rattle.td_algebra.specs.Keys.{TellApart, TellApartFrom}
use Rattle.td_algebra.proofs.Apart.{by_columns}
use Rattle.td_algebra.proofs.KeyGroups.{found_is}
use Rattle.td_algebra.proofs.Lists.{In, in_filter, filter_in}
use Rattle.td_algebra.proofs.Made.{has_in, in_has, has_fits}
use Rattle.td_algebra.proofs.Pairs.{entry_of, of_entry}
use Rattle.td_algebra.proofs.PlacedParts.{itself, same_key}

-- ---- tests of all of a list
module _ {X : Type 0} (p : X → Bool) where
  pub all_pass : (xs : List X) → list_all p xs ≡ true → (x : X) → In x xs → p x ≡ true
  all_pass [] e x m = absurd m
  all_pass (y ∷ xs) e x m =
      elim (p y) as (λ b. p y ≡ b → (b && list_all p xs) ≡ true → p x ≡ true) [
        | true ↦ λ f g. elim m [ inl same ↦ ap p same ∙ f | inr more ↦ all_pass xs g x more ]
        | false ↦ λ f g. absurd (true≢false (sym g))
      ] refl e

  pub pass_all : (xs : List X) → ((x : X) → In x xs → p x ≡ true) → list_all p xs ≡ true
  pass_all [] h = refl
  pass_all (y ∷ xs) h = ap (λ b. b && list_all p xs) (h y (inl refl)) ∙ pass_all xs (λ x m. h x (inr m))

-- ---- what an index of those that came finds
module _ (names : List (List ℕ)) (i r : RowsData) (heads : i.heading ≡ r.heading) (h : Header) (e : h ≡ columns_in names i.heading) (x : TupleIndex) (index : IsIndex i (names_of h) r (names_of h) x) where
  finds : (t : Attrs) → Has r t → found x t ≡ filter (has_part (names_of h) (cut (names_of h) t)) x.tuples.items
  finds t has =
      found_is i (names_of h) r (names_of h) x index (λ n p q. (p, subst (λ k. is_in (names_of k) n ≡ true) heads q)) t (has_fits r index.other_rows t has)

  part_of_new : (t : Attrs) → Has i t → cut (names_of h) t ≡ cut names t
  part_of_new = by_columns names i index.rows h e

  part_of_all : (t : Attrs) → Has r t → cut (names_of h) t ≡ cut names t
  part_of_all = by_columns names r index.other_rows h (e ∙ ap (columns_in names) heads)

  pub told_from : (b : Bool) → b ≡ list_all (λ t. are_all t (found x t)) r.tuples → IsTrue b ↔ TellApartFrom names i r
  told_from b is = (
    λ yes t u new has same.
        let k = cut (names_of h) u in
        let part : cut (names_of h) t ≡ k = part_of_new t new ∙ same ∙ sym (part_of_all u has) in
        let there : In t (filter (has_part (names_of h) k) x.tuples.items) = filter_in (has_part (names_of h) k) x.tuples.items t (of_entry i x.tuples.items index.entries t new) (subst (λ w. eq_by_cmp attrs_order (cut (names_of h) t) w ≡ true) part (itself (cut (names_of h) t))) in
        same_key t u (all_pass (λ w. eq_by_cmp attrs_order w u) (found x u) (all_pass (λ w. are_all w (found x w)) r.tuples (sym is ∙ yes) u (has_in r u has)) t (subst (In t) (sym (finds u has)) there)),
    λ apart. is ∙ pass_all (λ w. are_all w (found x w)) r.tuples (λ u m.
        let has = in_has r u m in
        pass_all (λ w. eq_by_cmp attrs_order w u) (found x u) (λ t n.
        let kept = in_filter (has_part (names_of h) (cut (names_of h) u)) x.tuples.items t (subst (In t) (finds u has) n) in
        let new = entry_of i x.tuples.items index.entries t kept.0 in
        let one = apart t u new has (sym (part_of_new t new) ∙ same_key _ _ kept.1 ∙ part_of_all u has) in
        subst (λ w. eq_by_cmp attrs_order w u ≡ true) (sym one) (itself u))),
  )

-- ---- after a change
module _ (names : List (List ℕ)) (before after : RowsData) (d : DeltaData) (apart : TellApart names before) (is : IsDifference before after d) where
  old_or_new : (t : Attrs) → Has after t → Has d.inserted t ⊎ Has before t
  old_or_new t has = elim (set.contains (body before) t) as (λ b. set.contains (body before) t ≡ b → Has d.inserted t ⊎ Has before t) [
    | true ↦ λ e. inr e
    | false ↦ λ e. inl ((of_difference before.heading after before d.inserted is.inserted).all t (has, λ old. true≢false (sym old ∙ e)))
  ] refl

  pub key_after : TellApart names after ↔ TellApartFrom names d.inserted after
  key_after = (
    λ told t u new has same. told t u ((of_difference before.heading after before d.inserted is.inserted).only t new).0 has same,
    λ told t u p q same. elim (old_or_new t p) [
      | inl new ↦ told t u new q same
      | inr old ↦ elim (old_or_new u q) [
        | inl new ↦ sym (told u t new p (sym same))
        | inr too ↦ apart t u old too same
      ]
    ],
  )
