-- The operators of relations, tuple by tuple.
use Rattle.std.proofs.Common.{◌≡◌, inl, inr, ⊎_elim, ℕ, Bool, true, List, [], ◌∷◌, map, Result, Ok, Err, refl, sym, ap, ◌∙◌, subst}
use Rattle.std.specs.List.{Contains, filter, flat_map}
use Rattle.td_values.specs.Data.{Attrs, tuple}
use Rattle.td_values.specs.Headings.{Header}
use Rattle.td_values.specs.Rows.{RowsData}
use Rattle.td_relations.specs.Sets.{Has, IsRelationOf, tuple_set}
use Rattle.td_relations.proofs.Members.{relation_of_is}
use Rattle.td_relations.proofs.Predicates.{by_predicate}
use Rattle.td_tuples.specs.Items.{extended_columns}
use Rattle.td_tuples.specs.Nestings.{opened_columns, wrapped_columns}
use Rattle.td_tuples.specs.Parts.{columns_in, cut, cut_off, names_of}
use Rattle.td_tuples.specs.Renamings.{renamed, renamed_columns}
use Rattle.td_tuples.specs.Unions.{beside, joined, lone_names, with_attribute}
use Rattle.td_tuples.specs.declared.items.Item.{Item}
use Rattle.td_algebra.specs.Extending.{TermMeaning, extended_at, field_at}
use Rattle.td_algebra.specs.ForProofs.Index.{has_part, is_matched}
use Rattle.td_algebra.specs.ForProofs.Opened.{tuples_at}
use Rattle.td_algebra.specs.Functions.{agrees, compose_of, extended, intersect_of, join_of, matching_of, minus_of, not_matching_of, open_of, project_of, relation_from, rename_of, restricted, ungroup_of, union_of, unwrap_of, wrap_of}
use Rattle.td_algebra.specs.Raising.{UnlessRaised}
use Rattle.td_algebra.specs.declared.errors.Stop.{Stop}
use Rattle.td_algebra.proofs.Bridges.{extended_is, intersect_is, minus_is, project_is, rename_is, restricted_is, union_is, wrap_is}
use Rattle.td_algebra.proofs.Lists.{In, any_in, filter_in, flat_map_in, in_any, in_filter, in_flat_map, in_map, map_in}
use Rattle.td_algebra.proofs.Made.{has_in, in_has, made}
use Rattle.td_incremental.proofs.Answers.{Grown}
use Rattle.td_incremental.proofs.Walks.{IsGrown, IsMade, Made, Walks, all_made, walked}

pub listed_is : (h : Header) (P : Attrs → Type 0) (xs : List Attrs) → ((t : Attrs) → In t xs → P t) → ((t : Attrs) → P t → In t xs) → IsRelationOf h P (relation_from h xs)
listed_is h P xs only all = made h h P xs (relation_from h xs) (relation_of_is h (tuple_set xs)) refl only all

-- the tuples of a that one of b matches
pub matching_members : (a b : RowsData) → IsRelationOf a.heading (λ t. Has a t × (is_matched a.heading b.heading b.tuples t ≡ true)) (matching_of a b)
unfolding matching_of
matching_members a b =
    let found : Attrs → Bool = is_matched a.heading b.heading b.tuples in
    listed_is a.heading (λ t. Has a t × (found t ≡ true)) (filter found a.tuples)
    (λ t m. let k = in_filter found a.tuples t m in (in_has a t k.0, k.1))
    (λ t p. filter_in found a.tuples t (has_in a t p.0) p.1)

unless_by : {A : Type 0} (R S : Stop → Type 0) (P Q : A → Type 0) (o : Result A Stop) → ((e : Stop) → R e → S e) → ((e : Stop) → S e → R e) → ((x : A) → P x → Q x) → UnlessRaised R P o → UnlessRaised S Q o
unless_by R S P Q (Ok x) there back moved u = ((λ e s. u.0 e (back e s)), moved x u.1)
unless_by R S P Q (Err e) there back moved u = (there e u.0, λ f s. u.1 f (back f s))

-- ---- what stays of a relation
abbrev itself : Header → Header
itself h = h

-- t is kept as it is, where K says so
abbrev Kept : (Header → Attrs → Type 0) → Header → Attrs → Attrs → Type 0
Kept K h t u = K h t × (u ≡ t)

module _ (K : Header → Attrs → Type 0) (r n : RowsData) where
  kept_made : IsRelationOf r.heading (λ t. Has r t × K r.heading t) n → IsMade itself (Kept K) r n
  kept_made is = by_predicate r.heading (λ t. Has r t × K r.heading t) (Made itself (Kept K) r) n is (λ u. (
    (λ p. (u, p.0, (p.1, refl))),
    (λ m. (subst (Has r) (sym m.2.1) m.1, subst (K r.heading) (sym m.2.1) m.2.0)),
  ))

module _ (a w b : RowsData) (g : IsGrown a w b) where
  -- ---- one operand
  pub projected : (names : List (List ℕ)) → IsGrown (project_of names a) (project_of names w) (project_of names b)
  projected names = all_made (columns_in names) (λ h t u. u ≡ cut names t) a w b g (project_of names a) (project_of names w) (project_of names b) (project_is names a) (project_is names w) (project_is names b)

  pub renamed_grown : (items : List (List ℕ × List ℕ)) → IsGrown (rename_of items a) (rename_of items w) (rename_of items b)
  renamed_grown items = all_made (renamed_columns items) (λ h t u. u ≡ renamed items t) a w b g (rename_of items a) (rename_of items w) (rename_of items b) (rename_is items a) (rename_is items w) (rename_is items b)

  pub wrapped : (names : List (List ℕ)) (c : List ℕ) → IsGrown (wrap_of names c a) (wrap_of names c w) (wrap_of names c b)
  wrapped names c = all_made (wrapped_columns names c) (λ h t u. u ≡ with_attribute c (tuple (cut names t)) (cut_off names t)) a w b g (wrap_of names c a) (wrap_of names c w) (wrap_of names c b) (wrap_is names c a) (wrap_is names c w) (wrap_is names c b)

  module _ (c : List ℕ) where
    abbrev opened_at : Attrs → List Attrs
    opened_at t = map (beside (cut_off (c ∷ []) t)) (tuples_at c t)

    abbrev Opens : Header → Attrs → Attrs → Type 0
    Opens h t u = In u (opened_at t)

    opens_made : (r : RowsData) → IsMade (opened_columns c) Opens r (open_of c r)
    unfolding open_of
    opens_made r =
        listed_is (opened_columns c r.heading) (Made (opened_columns c) Opens r) (flat_map opened_at r.tuples)
        (λ u m. let k = in_flat_map opened_at r.tuples u m in (k.0, in_has r k.0 k.1, k.2))
        (λ u p. flat_map_in opened_at r.tuples u p.0 (has_in r p.0 p.1) p.2)

    pub opened : IsGrown (open_of c a) (open_of c w) (open_of c b)
    opened = all_made (opened_columns c) Opens a w b g (open_of c a) (open_of c w) (open_of c b) (opens_made a) (opens_made w) (opens_made b)

    pub ungrouped : IsGrown (ungroup_of c a) (ungroup_of c w) (ungroup_of c b)
    unfolding ungroup_of
    ungrouped = opened

    pub unwrapped : IsGrown (unwrap_of c a) (unwrap_of c w) (unwrap_of c b)
    unfolding unwrap_of
    unwrapped = opened

  -- ---- a relation that stays beside it
  module _ (s : RowsData) where
    abbrev Out : Header → Attrs → Type 0
    Out h t = Has s t → ⊥

    rest_made : (r : RowsData) → IsMade itself (Kept Out) r (minus_of r s)
    rest_made r = kept_made Out r (minus_of r s) (minus_is r s)

    pub remaining : IsGrown (minus_of a s) (minus_of w s) (minus_of b s)
    remaining = all_made itself (Kept Out) a w b g (minus_of a s) (minus_of w s) (minus_of b s) (rest_made a) (rest_made w) (rest_made b)

    abbrev Within : Header → Attrs → Type 0
    Within h t = Has s t

    common_made : (r : RowsData) → IsMade itself (Kept Within) r (intersect_of r s)
    common_made r = kept_made Within r (intersect_of r s) (intersect_is r s)

    pub common : IsGrown (intersect_of a s) (intersect_of w s) (intersect_of b s)
    common = all_made itself (Kept Within) a w b g (intersect_of a s) (intersect_of w s) (intersect_of b s) (common_made a) (common_made w) (common_made b)

    -- those that some tuple matches, and the others
    abbrev Matched : Header → Attrs → Type 0
    Matched h t = is_matched h s.heading s.tuples t ≡ true

    matched_is : (r : RowsData) → IsRelationOf r.heading (λ t. Has r t × Matched r.heading t) (matching_of r s)
    matched_is r = matching_members r s

    matched_made : (r : RowsData) → IsMade itself (Kept Matched) r (matching_of r s)
    matched_made r = kept_made Matched r (matching_of r s) (matched_is r)

    pub matched : IsGrown (matching_of a s) (matching_of w s) (matching_of b s)
    matched = all_made itself (Kept Matched) a w b g (matching_of a s) (matching_of w s) (matching_of b s) (matched_made a) (matched_made w) (matched_made b)

    abbrev Unmatched : Header → Attrs → Type 0
    Unmatched h t = Matched h t → ⊥

    unmatched_made : (r : RowsData) → IsMade itself (Kept Unmatched) r (not_matching_of r s)
    unfolding not_matching_of
    unmatched_made r = kept_made Unmatched r (minus_of r (matching_of r s)) (by_predicate r.heading (λ t. Has r t × (Has (matching_of r s) t → ⊥)) (λ t. Has r t × Unmatched r.heading t) (minus_of r (matching_of r s)) (minus_is r (matching_of r s)) (λ t. (
      (λ p. (p.0, λ q. p.1 ((matched_is r).all t (p.0, q)))),
      (λ p. (p.0, λ h. p.1 (((matched_is r).only t h).1))),
    )))

    pub unmatched : IsGrown (not_matching_of a s) (not_matching_of w s) (not_matching_of b s)
    unmatched = all_made itself (Kept Unmatched) a w b g (not_matching_of a s) (not_matching_of w s) (not_matching_of b s) (unmatched_made a) (unmatched_made w) (unmatched_made b)

    -- those of s that a tuple matches
    abbrev Matches : Header → Attrs → Attrs → Type 0
    Matches h t u = Has s u × (has_part (names_of s.heading) (cut (names_of h) u) t ≡ true)

    abbrev its_heading : Header → Header
    its_heading h = s.heading

    matches_made : (r : RowsData) → IsMade its_heading Matches r (matching_of s r)
    unfolding matching_of
    matches_made r =
        let test : Attrs → Bool = is_matched s.heading r.heading r.tuples in
        let part : Attrs → Attrs → Bool = λ u. has_part (names_of s.heading) (cut (names_of r.heading) u) in
        listed_is s.heading (Made its_heading Matches r) (filter test s.tuples)
        (λ u m. let k = in_filter test s.tuples u m in let x = in_any (part u) r.tuples k.1 in (x.0, in_has r x.0 x.1, (in_has s u k.0, x.2)))
        (λ u p. filter_in test s.tuples u (has_in s u p.2.0) (any_in (part u) r.tuples p.0 (has_in r p.0 p.1) p.2.1))

    pub matching_it : IsGrown (matching_of s a) (matching_of s w) (matching_of s b)
    matching_it = all_made its_heading Matches a w b g (matching_of s a) (matching_of s w) (matching_of s b) (matches_made a) (matches_made w) (matches_made b)

    abbrev Itself : Header → Attrs → Attrs → Type 0
    Itself h t u = Has s t × (u ≡ t)

    its_made : (r : RowsData) → IsMade its_heading Itself r (intersect_of s r)
    its_made r = by_predicate s.heading (λ t. Has s t × Has r t) (Made its_heading Itself r) (intersect_of s r) (intersect_is s r) (λ u. (
      (λ p. (u, p.1, (p.0, refl))),
      (λ m. (subst (Has s) (sym m.2.1) m.2.0, subst (Has r) (sym m.2.1) m.1)),
    ))

    pub common_with_it : IsGrown (intersect_of s a) (intersect_of s w) (intersect_of s b)
    common_with_it = all_made its_heading Itself a w b g (intersect_of s a) (intersect_of s w) (intersect_of s b) (its_made a) (its_made w) (its_made b)

    -- joins, from either side
    abbrev beside_its : Header → Attrs → List Attrs
    beside_its h t = map (beside t) (filter (agrees h s.heading t) s.tuples)

    abbrev with_its : Header → Header
    with_its h = joined h s.heading

    abbrev JoinsIts : Header → Attrs → Attrs → Type 0
    JoinsIts h t u = In u (beside_its h t)

    joins_its_made : (r : RowsData) → IsMade with_its JoinsIts r (join_of r s)
    unfolding join_of
    joins_its_made r =
        listed_is (joined r.heading s.heading) (Made with_its JoinsIts r) (flat_map (beside_its r.heading) r.tuples)
        (λ u m. let k = in_flat_map (beside_its r.heading) r.tuples u m in (k.0, in_has r k.0 k.1, k.2))
        (λ u p. flat_map_in (beside_its r.heading) r.tuples u p.0 (has_in r p.0 p.1) p.2)

    pub joining_its : IsGrown (join_of a s) (join_of w s) (join_of b s)
    joining_its = all_made with_its JoinsIts a w b g (join_of a s) (join_of w s) (join_of b s) (joins_its_made a) (joins_its_made w) (joins_its_made b)

    abbrev to_its : Header → Header
    to_its h = joined s.heading h

    abbrev Joins : Header → Attrs → Attrs → Type 0
    Joins h t u = (v : Attrs) × Has s v × (agrees s.heading h v t ≡ true) × (u ≡ beside v t)

    joins_made : (r : RowsData) → IsMade to_its Joins r (join_of s r)
    unfolding join_of
    joins_made r =
        let alike : Attrs → Attrs → Bool = agrees s.heading r.heading in
        let pairs : Attrs → List Attrs = λ v. map (beside v) (filter (alike v) r.tuples) in
        listed_is (joined s.heading r.heading) (Made to_its Joins r) (flat_map pairs s.tuples)
        (λ u m.
        let k = in_flat_map pairs s.tuples u m in
        let x = in_map (beside k.0) (filter (alike k.0) r.tuples) u k.2 in
        let y = in_filter (alike k.0) r.tuples x.0 x.1 in
        (x.0, in_has r x.0 y.0, (k.0, in_has s k.0 k.1, y.1, x.2)))
        (λ u p. flat_map_in pairs s.tuples u p.2.0 (has_in s p.2.0 p.2.1) (map_in (beside p.2.0) (filter (alike p.2.0) r.tuples) u p.0 (filter_in (alike p.2.0) r.tuples p.0 (has_in r p.0 p.1) p.2.2) p.2.3))

    pub joining_it : IsGrown (join_of s a) (join_of s w) (join_of s b)
    joining_it = all_made to_its Joins a w b g (join_of s a) (join_of s w) (join_of s b) (joins_made a) (joins_made w) (joins_made b)

  -- ---- by functions of tuples
  module _ (m : Attrs → Result Bool Stop) where
    abbrev Passes : Header → Attrs → Type 0
    Passes h t = m t ≡ Ok true

    restricted_walks : (r : RowsData) → Walks itself (Kept Passes) (λ t e. m t ≡ Err e) r (restricted m r)
    restricted_walks r = unless_by (λ e. (t : Attrs) × Has r t × (m t ≡ Err e)) (λ e. (t : Attrs) × Has r t × (m t ≡ Err e)) (IsRelationOf r.heading (λ t. Has r t × (m t ≡ Ok true))) (IsMade itself (Kept Passes) r) (restricted m r) (λ e s. s) (λ e s. s) (λ n is. kept_made Passes r n is) (restricted_is m r)

    pub restricted_grown : Grown IsGrown (restricted m a) (restricted m w) (restricted m b)
    restricted_grown = walked itself (Kept Passes) (λ t e. m t ≡ Err e) a w b g (restricted m a) (restricted m w) (restricted m b) (restricted_walks a) (restricted_walks w) (restricted_walks b)

  module _ {E : Type 0} (m : TermMeaning E) (items : List (Item E)) where
    abbrev Extends : Header → Attrs → Attrs → Type 0
    Extends h t u = extended_at m items t ≡ Ok u

    abbrev RaisedAt : Attrs → Stop → Type 0
    RaisedAt t e = (i : Item E) × Contains items i × (field_at m t i ≡ Err e)

    extended_walks : (r : RowsData) → Walks (extended_columns items) Extends RaisedAt r (extended m items r)
    extended_walks r = unless_by (λ e. (i : Item E) × (t : Attrs) × Contains items i × Has r t × (field_at m t i ≡ Err e)) (λ e. (t : Attrs) × Has r t × RaisedAt t e) (IsMade (extended_columns items) Extends r) (IsMade (extended_columns items) Extends r) (extended m items r)
        (λ e s. (s.1, s.3, (s.0, s.2, s.4)))
        (λ e s. (s.2.0, s.0, s.2.1, s.1, s.2.2))
        (λ n is. is)
        (extended_is m items r)

    pub extended_grown : Grown IsGrown (extended m items a) (extended m items w) (extended m items b)
    extended_grown = walked (extended_columns items) Extends RaisedAt a w b g (extended m items a) (extended m items w) (extended m items b) (extended_walks a) (extended_walks w) (extended_walks b)

module _ (a w b : RowsData) (g : IsGrown a w b) (s : RowsData) where
  -- a join without the names that both have
  pub composing_its : IsGrown (compose_of a s) (compose_of w s) (compose_of b s)
  unfolding compose_of
  composing_its = by (lone_names a.heading s.heading) (lone_names b.heading s.heading) (ap (λ h. lone_names h s.heading) g.old_heading) (ap (λ h. lone_names h s.heading) g.new_heading)
    where
      names : List (List ℕ)
      names = lone_names w.heading s.heading

      by : (xs ys : List (List ℕ)) → xs ≡ names → ys ≡ names → IsGrown (project_of xs (join_of a s)) (project_of names (join_of w s)) (project_of ys (join_of b s))
      by xs ys e f =
          subst (λ zs. IsGrown (project_of zs (join_of a s)) (project_of names (join_of w s)) (project_of ys (join_of b s))) (sym e)
          (subst (λ zs. IsGrown (project_of names (join_of a s)) (project_of names (join_of w s)) (project_of zs (join_of b s))) (sym f)
          (projected (join_of a s) (join_of w s) (join_of b s) (joining_its a w b g s) names))

  pub composing_it : IsGrown (compose_of s a) (compose_of s w) (compose_of s b)
  unfolding compose_of
  composing_it = by (lone_names s.heading a.heading) (lone_names s.heading b.heading) (ap (λ h. lone_names s.heading h) g.old_heading) (ap (λ h. lone_names s.heading h) g.new_heading)
    where
      names : List (List ℕ)
      names = lone_names s.heading w.heading

      by : (xs ys : List (List ℕ)) → xs ≡ names → ys ≡ names → IsGrown (project_of xs (join_of s a)) (project_of names (join_of s w)) (project_of ys (join_of s b))
      by xs ys e f =
          subst (λ zs. IsGrown (project_of zs (join_of s a)) (project_of names (join_of s w)) (project_of ys (join_of s b))) (sym e)
          (subst (λ zs. IsGrown (project_of names (join_of s a)) (project_of names (join_of s w)) (project_of zs (join_of s b))) (sym f)
          (projected (join_of s a) (join_of s w) (join_of s b) (joining_it a w b g s) names))

-- ---- two that gained tuples
module _ (a w b c v d : RowsData) (g : IsGrown a w b) (h : IsGrown c v d) where
  pub united : IsGrown (union_of a c) (union_of w v) (union_of b d)
  united =
      let p = union_is a c in
      let q = union_is w v in
      let r = union_is b d in
      record {
        old_heading = p.heading ∙ g.old_heading ∙ sym q.heading;
        new_heading = r.heading ∙ g.new_heading ∙ sym q.heading;
        either = λ t has.
            ⊎_elim
            (λ m. ⊎_elim (λ x. inl (p.all t (inl x))) (λ x. inr (r.all t (inl x))) (g.either t m))
            (λ m. ⊎_elim (λ x. inl (p.all t (inr x))) (λ x. inr (r.all t (inr x))) (h.either t m))
            (q.only t has);
        new = λ t has. ⊎_elim (λ x. q.all t (inl (g.new t x))) (λ x. q.all t (inr (h.new t x))) (r.only t has);
      }
