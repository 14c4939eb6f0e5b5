-- Groups.
use Rattle.std.proofs.Common.{◌≡◌, inl, inr, ℕ, true, List, [], ◌∷◌, ◌++◌, map, refl, sym, ap, ◌∙◌, subst}
use Rattle.std.specs.FinSet as set
use Rattle.std.specs.List.{All, Contains, filter}
use Rattle.std.specs.List.Sorted.{IsPermutation}
use Rattle.std.specs.Ordering.{eq_by_cmp}
use Rattle.std.proofs.lemmas.List.Elements.{All-push}
use Rattle.td_values.specs.Data.{relation_type, Attrs}
use Rattle.td_values.specs.Headings.{Header, header_fields}
use Rattle.td_values.specs.Order.{attrs_order}
use Rattle.td_values.specs.Rows.{RowsData, AreRows}
use Rattle.td_relations.specs.Sets.{Has, IsRelation, IsRelationOf}
use Rattle.td_relations.proofs.Predicates.{one_relation}
use Rattle.td_tuples.specs.Parts.{Fits, names_of, cut, cut_off, columns_in, columns_out}
use Rattle.td_tuples.specs.Unions.{with_attribute, with_column}
use Rattle.td_tuples.proofs.ByName.{fits-with}
use Rattle.td_algebra.specs.ForProofs.Index.{has_part, HoldsTuples, HoldsGroup, AreGroups}
use Rattle.td_tuples.specs.Nestings.{grouped_columns}
use Rattle.td_algebra.specs.Nested.{relation_value, InGroup, WithGroup, Grouped}
use Rattle.td_algebra.proofs.PlacedParts.{itself, same_key}
use Rattle.td_algebra.proofs.Lists.{In, in_contains, contains_in, in_all, all_in, in_map, map_in, in_filter, filter_in, append_in}
use Rattle.td_algebra.proofs.Made.{in_has, made}
use Rattle.td_algebra.proofs.Pairs.{entry_of, of_entry}
use Rattle.td_algebra.proofs.Wrappings.{inner_part, outer_part, inner_fits, outer_fits}

pub all_map : {X Y : Type 0} (P : Y → Type 0) (f : X → Y) (xs : List X) → All (λ x. P (f x)) xs → All P (map f xs)
all_map P f xs a = in_all P (map f xs) (λ y m. let k = in_map f xs y m in subst P (sym k.2) (all_in (λ x. P (f x)) xs a k.0 k.1))

-- the tuples of a relation that is made of a list are the list's
pub listed : (h : Header) (xs : List Attrs) (n : RowsData) → IsRelation h (set.from_list xs) n → (t : Attrs) → In t n.tuples → In t xs
listed h xs n is t m = (made h h (λ u. In u xs) xs n is refl (λ u k. k) (λ u k. k)).only t (in_has n t m)

-- ---- the walk along an index
module _ (inner outer : Header) (c : List ℕ) (es ts us : List Attrs) (groups : AreGroups inner outer c es ts us) (t : Attrs) where
  -- one more tuple and its group
  pub groups_more : (u : Attrs) → In t es → HoldsGroup inner outer c es t u → AreGroups inner outer c es (ts ++ t ∷ []) (us ++ u ∷ [])
  groups_more u m holds =
      let P : Attrs → Type 0 = λ w. (v : Attrs) × (Contains (us ++ u ∷ []) v) × (HoldsGroup inner outer c es w v) in
      record {
        of_some = All-push (λ w. (v : Attrs) × (Contains es v) × (HoldsGroup inner outer c es v w)) us u groups.of_some (t, in_contains es t m, holds);
        of_each = All-push P ts t
            (in_all P ts (λ w k. let old = all_in (λ w. (v : Attrs) × (Contains us v) × (HoldsGroup inner outer c es w v)) ts groups.of_each w k in
            (old.0, in_contains (us ++ u ∷ []) old.0 (append_in us (u ∷ []) old.0 (inl (contains_in us old.0 old.1))), old.2)))
            (u, in_contains (us ++ u ∷ []) u (append_in us (u ∷ []) u (inr (inl refl))), holds);
      }

  -- one more tuple, with the part of another one
  pub groups_again : (s : Attrs) → In s ts → cut (names_of outer) s ≡ cut (names_of outer) t → AreGroups inner outer c es (ts ++ t ∷ []) us
  groups_again s m same =
      let P : Attrs → Type 0 = λ w. (v : Attrs) × (Contains us v) × (HoldsGroup inner outer c es w v) in
      let old = all_in P ts groups.of_each s m in
      record {
        of_some = groups.of_some;
        of_each = All-push P ts t groups.of_each
            (old.0, old.1, subst (λ k. HoldsTuples inner c k (map (cut (names_of inner)) (filter (has_part (names_of outer) k) es)) old.0) same old.2);
      }

module _ (names : List (List ℕ)) (c : List ℕ) (r : RowsData) (v u w : Attrs) where
  pub same_group : WithGroup names c r v u → WithGroup names c r v w → u ≡ w
  same_group a b =
      let g : a.0 ≡ b.0 = one_relation (columns_in names r.heading) (InGroup names r v) a.0 b.0 a.1 b.1 in
      a.2 ∙ ap (λ (z : RowsData). with_attribute c (relation_value z) v) g ∙ sym b.2

module _ (r : RowsData) (rows : AreRows r.heading r.tuples) (names : List (List ℕ)) (inner outer : Header) (i : inner ≡ columns_in names r.heading) (o : outer ≡ columns_out names r.heading) (es : List Attrs) (entries : IsPermutation r.tuples es) where
  pub parts_fit : All (λ t. Fits inner (cut (names_of inner) t)) es
  parts_fit = in_all (λ t. Fits inner (cut (names_of inner) t)) es (λ t m.
      let has = entry_of r es entries t m in
      subst (Fits inner) (sym (inner_part r rows names inner outer i o t has)) (inner_fits r rows names inner outer i o t has))

  group_in : (k w : Attrs) → In w (map (cut (names_of inner)) (filter (has_part (names_of outer) k) es)) → InGroup names r k w
  group_in k w m =
      let part = in_map (cut (names_of inner)) (filter (has_part (names_of outer) k) es) w m in
      let t = part.0 in
      let kept = in_filter (has_part (names_of outer) k) es t part.1 in
      let has = entry_of r es entries t kept.0 in
      (t, has, sym (outer_part r rows names inner outer i o t has) ∙ same_key _ _ kept.1, part.2 ∙ inner_part r rows names inner outer i o t has)

  in_group : (k w : Attrs) → InGroup names r k w → In w (map (cut (names_of inner)) (filter (has_part (names_of outer) k) es))
  in_group k w g =
      let t = g.0 in
      let key : cut (names_of outer) t ≡ k = outer_part r rows names inner outer i o t g.1 ∙ g.2 in
      map_in (cut (names_of inner)) (filter (has_part (names_of outer) k) es) w t
      (filter_in (has_part (names_of outer) k) es t (of_entry r es entries t g.1) (subst (λ z. eq_by_cmp attrs_order z k ≡ true) (sym key) (itself k)))
      (g.3 ∙ sym (inner_part r rows names inner outer i o t g.1))

  module _ (c : List ℕ) where
    held_group : (t : Attrs) → Has r t → (u : Attrs) → HoldsGroup inner outer c es t u → WithGroup names c r (cut_off names t) u
    held_group t has u h =
        let k = cut (names_of outer) t in
        subst (λ v. WithGroup names c r v u) (outer_part r rows names inner outer i o t has)
        (h.0, made inner (columns_in names r.heading) (InGroup names r k) (map (cut (names_of inner)) (filter (has_part (names_of outer) k) es)) h.0 h.1 i (group_in k) (in_group k), h.2)

    module _ (out : List Attrs) (groups : AreGroups inner outer c es es out) where
      some_tuple : (u : Attrs) → In u out → (t : Attrs) × (Has r t) × (HoldsGroup inner outer c es t u)
      some_tuple u m =
          let w = all_in (λ v. (t : Attrs) × (Contains es t) × (HoldsGroup inner outer c es t v)) out groups.of_some u m in
          (w.0, entry_of r es entries w.0 (contains_in es w.0 w.1), w.2)

      grouped_in : (u : Attrs) → In u out → Grouped names c r u
      grouped_in u m = let w = some_tuple u m in (w.0, w.1, held_group w.0 w.1 u w.2)

      in_grouped : (u : Attrs) → Grouped names c r u → In u out
      in_grouped u g =
          let t = g.0 in
          let w = all_in (λ s. (v : Attrs) × (Contains out v) × (HoldsGroup inner outer c es s v)) es groups.of_each t (of_entry r es entries t g.1) in
          let one : u ≡ w.0 = same_group names c r (cut_off names t) u w.0 g.2 (held_group t g.1 w.0 w.2) in
          subst (λ q. In q out) (sym one) (contains_in out w.0 w.1)

      module _ (h : Header) (e : h ≡ with_column c (relation_type (header_fields inner)) outer) where
        pub grouped_fit : All (Fits h) out
        grouped_fit = in_all (Fits h) out (λ u m.
            let w = some_tuple u m in
            let g = w.2.0 in
            let part = cut (names_of outer) w.0 in
            let fits : Fits outer part = subst (Fits outer) (sym (outer_part r rows names inner outer i o w.0 w.1)) (outer_fits r rows names inner outer i o w.0 w.1) in
            subst (Fits h) (sym w.2.2) (subst (λ k. Fits k (with_attribute c (relation_value g) part))
            (ap (λ (k : Header). with_column c (relation_type (header_fields k)) outer) w.2.1.heading ∙ sym e)
            (fits-with c (relation_value g) outer part fits)))

        pub grouped_made : (n : RowsData) → IsRelation h (set.from_list out) n → IsRelationOf (grouped_columns names c r.heading) (Grouped names c r) n
        grouped_made n made_of = made h (grouped_columns names c r.heading) (Grouped names c r) out n made_of
            (e ∙ (λ k. with_column c (relation_type (header_fields (i k))) (o k))) grouped_in in_grouped
