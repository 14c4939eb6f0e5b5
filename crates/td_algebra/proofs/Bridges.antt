-- What an operator's contract says is what its function gives: for the crates above.
use Rattle.std.proofs.Common.{◌≡◌, ℕ, zero, suc, length, inl, inr, Bool, true, List, [], ◌∷◌, ◌++◌, map, Result, Ok, Err, refl, sym, ap, ◌∙◌, subst, append_assoc, arith}
use Rattle.std.specs.FinSet as set
use Rattle.std.specs.List.{filter, flat_map, fold}
use Rattle.std.specs.Ordering.{eq_by_cmp}
use Rattle.std.proofs.lemmas.List.{append-nil}
use Rattle.td_values.specs.Data.{Ty, tuple, Attrs}
use Rattle.td_values.specs.Headings.{Header}
use Rattle.td_values.specs.Order.{attrs_order}
use Rattle.td_values.specs.Rows.{RowsData, AreRows}
use Rattle.td_relations.specs.Sets.{body, Has, IsRelation, IsRelationOf, tuple_set}
use Rattle.td_relations.proofs.Members.{relation_of_is}
use Rattle.td_relations.proofs.Predicates.{one_relation, by_predicate, of_union, of_intersection, of_difference}
use Rattle.td_tuples.specs.Parts.{Fits, names_of, cut, cut_off, columns_in}
use Rattle.td_tuples.specs.Renamings.{renamed, renamed_columns}
use Rattle.td_tuples.specs.Unions.{beside, joined, with_attribute, composed_columns, lone_names}
use Rattle.td_tuples.proofs.ByName.{fits-beside}
use Rattle.td_tuples.proofs.SideBySide.{cut-beside_first, cut-beside_second, cut_agree, beside-cut}
use Rattle.td_algebra.specs.declared.errors.Fault.{Fault}
use Rattle.std.specs.declared.convert.Infallible.{Infallible}
use Rattle.td_algebra.specs.declared.errors.Fault.TheVariants.{Raised, OutOfMemory, Wanting}
use Rattle.td_algebra.specs.declared.errors.Stop.{Stop}
use Rattle.td_values.specs.declared.raises.Raise.TheVariants.{Overflow, Divide, Empty, Selector, Cardinality}
use Rattle.td_algebra.specs.declared.errors.Stop.TheVariants.{Untyped, Error}
use Rattle.td_tuples.specs.declared.items.Item.{Item}
use Rattle.td_tuples.specs.declared.items.Summary.{Summary}
use Rattle.td_algebra.specs.Counts.{IsLengthOf}
use Rattle.td_algebra.specs.Closures.{HasColumns, IsBinary, Closed}
use Rattle.td_algebra.specs.ForProofs.Steps.{has_value, links}
use Rattle.td_tuples.specs.Items.{extended_columns}
use Rattle.td_algebra.specs.Extending.{TermMeaning, Extended, RaisedBy, extended_at}
use Rattle.td_algebra.specs.Functions.{relation_from, union_of, intersect_of, minus_of, project_of, rename_of, agrees, join_of, matching_of, not_matching_of, compose_of, group_at, grouping_of, wrap_of, open_of, ungroup_of, unwrap_of, with_through, with_through_end, tclose_of, restricted, extended, summarized}
use Rattle.td_algebra.specs.ForProofs.Index.{is_matched}
use Rattle.td_tuples.specs.Nestings.{IsRelationValued, IsTupleValued, grouped_columns, wrapped_columns, opened_columns}
use Rattle.td_algebra.specs.Nested.{relation_value, InGroup, Grouped, Wrapped, Ungrouped, Unwrapped}
use Rattle.td_algebra.specs.ForProofs.Opened.{Opened, tuples_at}
use Rattle.td_algebra.specs.Operators.{United, Common, Remaining, Projected, Renamed, Joined, Matching, NotMatching, Composed}
use Rattle.td_algebra.specs.Raising.{Answers, Unless, UnlessRaised, all_of, and_then}
use Rattle.td_algebra.specs.Restricting.{Restricted, RaisedIn, select}
use Rattle.td_algebra.specs.Stops.{stop_number}
use Rattle.td_algebra.specs.Summaries.{over_groups}
use Rattle.td_algebra.proofs.Chains.{through_fit, through_made}
use Rattle.td_algebra.proofs.Closing.{IsClosedOver, begun, stepped, has_end, closed}
use Rattle.td_algebra.proofs.Derived.{matching_made, without, projection_of}
use Rattle.td_algebra.proofs.Extensions.{extends, extension_fails}
use Rattle.td_algebra.proofs.Grouping.{same_group, listed}
use Rattle.td_algebra.proofs.Lists.{In, in_contains, contains_in, all_in, in_all, in_filter, filter_in, in_map, map_in, in_flat_map, flat_map_in}
use Rattle.td_algebra.proofs.Made.{has_in, in_has, has_fits, made, image_made}
use Rattle.td_algebra.proofs.Openings.{ungrouped, unwrapped}
use Rattle.td_algebra.proofs.PlacedParts.{itself, same_key}
use Rattle.td_algebra.proofs.Selections.{restricts, walk_fails}

-- ---- sets

module _ (r s : RowsData) where
  pub union_is : IsRelationOf r.heading (United r s) (union_of r s)
  unfolding union_of
  union_is = of_union r.heading r s (union_of r s) (relation_of_is r.heading (set.union (body r) (body s)))

  pub intersect_is : IsRelationOf r.heading (Common r s) (intersect_of r s)
  unfolding intersect_of
  intersect_is = of_intersection r.heading r s (intersect_of r s) (relation_of_is r.heading (set.intersection (body r) (body s)))

  pub minus_is : IsRelationOf r.heading (Remaining r s) (minus_of r s)
  unfolding minus_of
  minus_is = of_difference r.heading r s (minus_of r s) (relation_of_is r.heading (set.difference (body r) (body s)))

  module _ (n : RowsData) where
    pub unites_to : IsRelationOf r.heading (United r s) n → n ≡ union_of r s
    unites_to is = one_relation r.heading (United r s) n (union_of r s) is union_is

    pub intersects_to : IsRelationOf r.heading (Common r s) n → n ≡ intersect_of r s
    intersects_to is = one_relation r.heading (Common r s) n (intersect_of r s) is intersect_is

    pub subtracts_to : IsRelationOf r.heading (Remaining r s) n → n ≡ minus_of r s
    subtracts_to is = one_relation r.heading (Remaining r s) n (minus_of r s) is minus_is

-- ---- a function of each tuple

image_is : (r : RowsData) (h : Header) (f : Attrs → Attrs) → IsRelationOf h (λ u. (t : Attrs) × (Has r t) × (u ≡ f t)) (relation_from h (map f r.tuples))
image_is r h f = image_made r f f (λ t has. refl) r.tuples (map f r.tuples) refl refl h h (relation_from h (map f r.tuples)) (relation_of_is h (tuple_set (map f r.tuples))) refl

listed_is : (h : Header) (P : Attrs → Type 0) (xs : List Attrs) → ((t : Attrs) → In t xs → P t) → ((t : Attrs) → P t → In t xs) → IsRelationOf h P (relation_from h xs)
listed_is h P xs only all = made h h P xs (relation_from h xs) (relation_of_is h (tuple_set xs)) refl only all

pub project_is : (names : List (List ℕ)) (r : RowsData) → IsRelationOf (columns_in names r.heading) (Projected names r) (project_of names r)
unfolding project_of
project_is names r = image_is r (columns_in names r.heading) (cut names)

pub projects_to : (names : List (List ℕ)) (r n : RowsData) → IsRelationOf (columns_in names r.heading) (Projected names r) n → n ≡ project_of names r
projects_to names r n is = one_relation (columns_in names r.heading) (Projected names r) n (project_of names r) is (project_is names r)

pub rename_is : (items : List (List ℕ × List ℕ)) (r : RowsData) → IsRelationOf (renamed_columns items r.heading) (Renamed items r) (rename_of items r)
unfolding rename_of
rename_is items r = image_is r (renamed_columns items r.heading) (renamed items)

pub renames_to : (items : List (List ℕ × List ℕ)) (r n : RowsData) → IsRelationOf (renamed_columns items r.heading) (Renamed items r) n → n ≡ rename_of items r
renames_to items r n is = one_relation (renamed_columns items r.heading) (Renamed items r) n (rename_of items r) is (rename_is items r)

-- ---- joins

module _ (r s : RowsData) (a : AreRows r.heading r.tuples) (b : AreRows s.heading s.tuples) where
  abbrev pairs_at : Attrs → List Attrs
  pairs_at t = map (beside t) (filter (agrees r.heading s.heading t) s.tuples)

  pairs_in : (w : Attrs) → In w (flat_map pairs_at r.tuples) → Joined r s w
  pairs_in w m =
      let at = in_flat_map pairs_at r.tuples w m in
      let t = at.0 in
      let pair = in_map (beside t) (filter (agrees r.heading s.heading t) s.tuples) w at.2 in
      let u = pair.0 in
      let kept = in_filter (agrees r.heading s.heading t) s.tuples u pair.1 in
      let agree : cut (names_of s.heading) t ≡ cut (names_of r.heading) u = sym (same_key _ _ kept.1) in
      let ht = in_has r t at.1 in
      let hu = in_has s u kept.0 in
      let f = has_fits r a t ht in
      let g = has_fits s b u hu in (
        subst (Fits (joined r.heading s.heading)) (sym pair.2) (fits-beside r.heading s.heading t u f g),
        subst (Has r) (sym (ap (cut (names_of r.heading)) pair.2 ∙ cut-beside_first r.heading s.heading t u f g)) ht,
        subst (Has s) (sym (ap (cut (names_of s.heading)) pair.2 ∙ cut-beside_second r.heading s.heading t u f g agree)) hu,
      )

  in_pairs : (w : Attrs) → Joined r s w → In w (flat_map pairs_at r.tuples)
  in_pairs w j =
      let t = cut (names_of r.heading) w in
      let u = cut (names_of s.heading) w in
      let agree : cut (names_of s.heading) t ≡ cut (names_of r.heading) u = cut_agree r.heading s.heading w j.0 in
      let same : agrees r.heading s.heading t u ≡ true = subst (λ z. eq_by_cmp attrs_order (cut (names_of r.heading) u) z ≡ true) (sym agree) (itself (cut (names_of r.heading) u)) in
      flat_map_in pairs_at r.tuples w t (has_in r t j.1)
      (map_in (beside t) (filter (agrees r.heading s.heading t) s.tuples) w u (filter_in (agrees r.heading s.heading t) s.tuples u (has_in s u j.2) same) (sym (beside-cut r.heading s.heading w j.0)))

  pub join_is : IsRelationOf (joined r.heading s.heading) (Joined r s) (join_of r s)
  unfolding join_of
  join_is = listed_is (joined r.heading s.heading) (Joined r s) (flat_map pairs_at r.tuples) pairs_in in_pairs

  pub matching_is : IsRelationOf r.heading (Matching r s) (matching_of r s)
  unfolding matching_of
  matching_is =
      let xs = filter (is_matched r.heading s.heading s.tuples) r.tuples in
      matching_made r s a b xs refl r.heading refl (matching_of r s) (relation_of_is r.heading (tuple_set xs))

  pub not_matching_is : IsRelationOf r.heading (NotMatching r s) (not_matching_of r s)
  unfolding not_matching_of minus_of
  not_matching_is = without r.heading (Matching r s) r (matching_of r s) (not_matching_of r s) matching_is (relation_of_is r.heading (set.difference (body r) (body (matching_of r s))))

  pub compose_is : IsRelationOf (composed_columns r.heading s.heading) (Composed r s) (compose_of r s)
  unfolding compose_of project_of
  compose_is =
      let names = lone_names r.heading s.heading in
      projection_of names names (joined r.heading s.heading) (Joined r s) (join_of r s) (compose_of r s) refl join_is (image_is (join_of r s) (columns_in names (join_of r s).heading) (cut names))

  module _ (n : RowsData) where
    pub joins_to : IsRelationOf (joined r.heading s.heading) (Joined r s) n → n ≡ join_of r s
    joins_to is = one_relation (joined r.heading s.heading) (Joined r s) n (join_of r s) is join_is

    pub matches_to : IsRelationOf r.heading (Matching r s) n → n ≡ matching_of r s
    matches_to is = one_relation r.heading (Matching r s) n (matching_of r s) is matching_is

    pub not_matches_to : IsRelationOf r.heading (NotMatching r s) n → n ≡ not_matching_of r s
    not_matches_to is = one_relation r.heading (NotMatching r s) n (not_matching_of r s) is not_matching_is

    pub composes_to : IsRelationOf (composed_columns r.heading s.heading) (Composed r s) n → n ≡ compose_of r s
    composes_to is = one_relation (composed_columns r.heading s.heading) (Composed r s) n (compose_of r s) is compose_is

-- ---- relations and tuples in attributes

module _ (names : List (List ℕ)) (c : List ℕ) (r : RowsData) where
  group_is : (v : Attrs) → IsRelationOf (columns_in names r.heading) (InGroup names r v) (group_at names r v)
  group_is v =
      let here : Attrs → Bool = λ t. eq_by_cmp attrs_order (cut_off names t) v in
      let ts = filter here r.tuples in
      listed_is (columns_in names r.heading) (InGroup names r v) (map (cut names) ts)
      (λ w m.
      let i = in_map (cut names) ts w m in
      let k = in_filter here r.tuples i.0 i.1 in
      (i.0, in_has r i.0 k.0, same_key _ _ k.1, i.2))
      (λ w g. map_in (cut names) ts w g.0 (filter_in here r.tuples g.0 (has_in r g.0 g.1) (subst (λ z. eq_by_cmp attrs_order z v ≡ true) (sym g.2) (itself v))) g.3)

  abbrev with_its_group : Attrs → Attrs
  with_its_group t = with_attribute c (relation_value (group_at names r (cut_off names t))) (cut_off names t)

  pub grouping_is : IsRelationOf (grouped_columns names c r.heading) (Grouped names c r) (grouping_of names c r)
  unfolding grouping_of
  grouping_is = by_predicate (grouped_columns names c r.heading) (λ u. (t : Attrs) × (Has r t) × (u ≡ with_its_group t)) (Grouped names c r) (grouping_of names c r)
      (image_is r (grouped_columns names c r.heading) with_its_group)
      (λ u. (
        λ p. (p.0, p.1, (group_at names r (cut_off names p.0), group_is (cut_off names p.0), p.2)),
        λ g. (g.0, g.1, same_group names c r (cut_off names g.0) u (with_its_group g.0) g.2 (group_at names r (cut_off names g.0), group_is (cut_off names g.0), refl)),
      ))

  pub wrap_is : IsRelationOf (wrapped_columns names c r.heading) (Wrapped names c r) (wrap_of names c r)
  unfolding wrap_of
  wrap_is = image_is r (wrapped_columns names c r.heading) (λ t. with_attribute c (tuple (cut names t)) (cut_off names t))

  module _ (n : RowsData) where
    pub groups_to : IsRelationOf (grouped_columns names c r.heading) (Grouped names c r) n → n ≡ grouping_of names c r
    groups_to is = one_relation (grouped_columns names c r.heading) (Grouped names c r) n (grouping_of names c r) is grouping_is

    pub wraps_to : IsRelationOf (wrapped_columns names c r.heading) (Wrapped names c r) n → n ≡ wrap_of names c r
    wraps_to is = one_relation (wrapped_columns names c r.heading) (Wrapped names c r) n (wrap_of names c r) is wrap_is

module _ (c : List ℕ) (r : RowsData) where
  abbrev opened_at : Attrs → List Attrs
  opened_at t = map (beside (cut_off (c ∷ []) t)) (tuples_at c t)

  open_is : IsRelationOf (opened_columns c r.heading) (Opened c r) (open_of c r)
  unfolding open_of
  open_is = listed_is (opened_columns c r.heading) (Opened c r) (flat_map opened_at r.tuples)
      (λ u m.
      let at = in_flat_map opened_at r.tuples u m in
      let w = in_map (beside (cut_off (c ∷ []) at.0)) (tuples_at c at.0) u at.2 in
      (at.0, in_has r at.0 at.1, w.0, in_contains (tuples_at c at.0) w.0 w.1, w.2))
      (λ u p. flat_map_in opened_at r.tuples u p.0 (has_in r p.0 p.1) (map_in (beside (cut_off (c ∷ []) p.0)) (tuples_at c p.0) u p.2 (contains_in (tuples_at c p.0) p.2 p.3) p.4))

  module _ (rows : AreRows r.heading r.tuples) where
    pub ungroup_is : IsRelationValued c r.heading → IsRelationOf (opened_columns c r.heading) (Ungrouped c r) (ungroup_of c r)
    unfolding ungroup_of
    ungroup_is valued = ungrouped c r rows (opened_columns c r.heading) (open_of c r) valued open_is

    pub unwrap_is : IsTupleValued c r.heading → IsRelationOf (opened_columns c r.heading) (Unwrapped c r) (unwrap_of c r)
    unfolding unwrap_of
    unwrap_is valued = unwrapped c r rows (opened_columns c r.heading) (open_of c r) valued open_is

    module _ (n : RowsData) where
      pub ungroups_to : IsRelationValued c r.heading → IsRelationOf (opened_columns c r.heading) (Ungrouped c r) n → n ≡ ungroup_of c r
      ungroups_to valued is = one_relation (opened_columns c r.heading) (Ungrouped c r) n (ungroup_of c r) is (ungroup_is valued)

      pub unwraps_to : IsTupleValued c r.heading → IsRelationOf (opened_columns c r.heading) (Unwrapped c r) n → n ≡ unwrap_of c r
      unwraps_to valued is = one_relation (opened_columns c r.heading) (Unwrapped c r) n (unwrap_of c r) is (unwrap_is valued)

-- ---- the transitive closure

module _ (r : RowsData) (b : IsBinary r.heading) (rows : AreRows r.heading r.tuples) where
  abbrev fields : List (List ℕ × Ty)
  fields = (b.first, b.columns.ty) ∷ (b.second, b.columns.ty) ∷ []

  module _ (done : List Attrs) (o : RowsData) (are : AreRows o.heading o.tuples) (inv : IsClosedOver r done o) (t : Attrs) (has : Has r t) where
    module _ where
      columns : HasColumns b.first b.second o.heading
      columns = subst (HasColumns b.first b.second) (sym inv.heading) b.columns

    one_further : IsClosedOver r (done ++ t ∷ []) (with_through_end fields o t) × AreRows (with_through_end fields o t).heading (with_through_end fields o t).tuples
    one_further =
        let (z, ends) = has_end r b rows t has in
        let tails = filter (has_value b.first z) o.tuples in
        let out = o.tuples ++ flat_map (links b.second z tails) o.tuples in
        let n = relation_from o.heading out in
        let n_is : IsRelation o.heading (set.from_list out) n = relation_of_is o.heading (tuple_set out) in
        let fit = through_fit b.first b.second o are columns z tails refl out refl o.heading refl in
        let closer = stepped r b rows done o n t has z ends inv (through_made b.first b.second o are columns z tails refl out refl o.heading refl n n_is) in
        let P : RowsData → Type 0 = λ m. IsClosedOver r (done ++ t ∷ []) m × AreRows m.heading m.tuples in
        subst P (sym (ap (λ d. with_through b.first b.second d o) ends))
        (closer, record { fit = in_all (Fits o.heading) n.tuples (λ u m. all_in (Fits o.heading) out fit u (listed o.heading out n n_is u m)); ascending = n_is.ascending })

  further : (done rest : List Attrs) (o : RowsData) → AreRows o.heading o.tuples → IsClosedOver r done o → ((t : Attrs) → In t rest → Has r t) → IsClosedOver r (done ++ rest) (fold (with_through_end fields) o rest)
  further done [] o are inv has = subst (λ ms. IsClosedOver r ms o) (sym (append-nil done)) inv
  further done (t ∷ rest) o are inv has =
      let next = one_further done o are inv t (has t (inl refl)) in
      subst (λ ms. IsClosedOver r ms (fold (with_through_end fields) (with_through_end fields o t) rest)) (append_assoc done (t ∷ []) rest)
      (further (done ++ t ∷ []) rest (with_through_end fields o t) next.1 next.0 (λ u m. has u (inr m)))

  pub closure_is : IsRelationOf r.heading (Closed r) (tclose_of r)
  unfolding tclose_of
  closure_is =
      let all = further [] r.tuples r rows (begun r b rows r refl) (λ t m. in_has r t m) in
      closed r b rows (tclose_of r) (subst (λ fs. IsClosedOver r r.tuples (fold (with_through_end fs) r r.tuples)) (sym b.columns.are) all)

  pub closes_to : (n : RowsData) → IsRelationOf r.heading (Closed r) n → n ≡ tclose_of r
  closes_to n is = one_relation r.heading (Closed r) n (tclose_of r) is closure_is

-- ---- by functions of tuples

abbrev stop_at : ℕ → Stop
stop_at zero = Untyped
stop_at (suc zero) = Error Overflow
stop_at (suc (suc zero)) = Error Divide
stop_at (suc (suc (suc zero))) = Error Empty
stop_at (suc (suc (suc (suc zero)))) = Error Selector
stop_at (suc (suc (suc (suc (suc n))))) = Error Cardinality

back : (e : Stop) → stop_at (stop_number e) ≡ e
back Untyped = refl
back (Error Overflow) = refl
back (Error Divide) = refl
back (Error Empty) = refl
back (Error Selector) = refl
back (Error Cardinality) = refl

pub same_stop : (e f : Stop) → stop_number e ≡ stop_number f → e ≡ f
same_stop e f h = sym (back e) ∙ ap stop_at h ∙ back f

abbrev told : {A : Type 0} → Result A Stop → Result A (Fault Infallible)
told (Ok a) = Ok a
told (Err e) = Err (Raised e)

untold : (R : Stop → Type 0) {B : Type 0} (P : B → Type 0) (w : Result B Stop) → Unless R P (told w) → UnlessRaised R P w
untold R P (Ok b) u = u
untold R P (Err e) u = u

-- two answers that are right are one
module _ (R : Stop → Type 0) (h : Header) (P : Attrs → Type 0) where
  answers : {W : Type 0} (m : Result RowsData Stop) (a : Result RowsData (Fault W)) → Unless R (IsRelationOf h P) (told m) → Unless R (IsRelationOf h P) a → Answers a m
  answers (Ok r) (Ok s) x u = ap Ok (one_relation h P r s x.1 u.1)
  answers (Ok r) (Err (Raised e)) x u = absurd (x.0 e u.0)
  answers (Ok r) (Err OutOfMemory) x u = tt
  answers (Ok r) (Err (Wanting w)) x u = tt
  answers (Err e) (Ok s) x u = absurd (u.0 e x.0)
  answers (Err e) (Err (Raised f)) x u = ap Err (same_stop e f (omega (arith, x.1 f u.0, u.1 e x.0)))
  answers (Err e) (Err OutOfMemory) x u = tt
  answers (Err e) (Err (Wanting w)) x u = tt

  -- how many tuples there are, or the error
  counts : {W : Type 0} (m : Result RowsData Stop) (a : Result ℕ (Fault W)) → UnlessRaised R (IsRelationOf h P) m → Unless R (IsLengthOf h P) a → Answers a (and_then m (λ s. Ok (length s.tuples)))
  counts (Ok r) (Ok n) x u = ap Ok (sym (u.1 r x.1))
  counts (Ok r) (Err (Raised e)) x u = absurd (x.0 e u.0)
  counts (Ok r) (Err OutOfMemory) x u = tt
  counts (Ok r) (Err (Wanting w)) x u = tt
  counts (Err e) (Ok n) x u = absurd (u.0 e x.0)
  counts (Err e) (Err (Raised f)) x u = ap Err (same_stop e f (omega (arith, x.1 f u.0, u.1 e x.0)))
  counts (Err e) (Err OutOfMemory) x u = tt
  counts (Err e) (Err (Wanting w)) x u = tt

module _ (m : Attrs → Result Bool Stop) (r : RowsData) where
  by_walk : (w : Result (List Bool) Stop) → all_of m r.tuples ≡ w → Unless (RaisedIn m r) (IsRelationOf r.heading (Restricted m r)) (told (and_then w (λ bs. Ok (relation_from r.heading (select r.tuples bs)))))
  by_walk (Ok bs) is = restricts m r bs (relation_from r.heading (select r.tuples bs)) is (relation_of_is r.heading (tuple_set (select r.tuples bs)))
  by_walk (Err e) is = walk_fails m r {W = Infallible} (λ (xs : List Bool). xs) (IsRelationOf r.heading (Restricted m r)) (Raised e) is

  pub restricted_is : UnlessRaised (RaisedIn m r) (IsRelationOf r.heading (Restricted m r)) (restricted m r)
  unfolding restricted
  restricted_is = untold (RaisedIn m r) (IsRelationOf r.heading (Restricted m r)) (restricted m r) (by_walk (all_of m r.tuples) refl)

  pub restricts_to : {W : Type 0} (a : Result RowsData (Fault W)) → Unless (RaisedIn m r) (IsRelationOf r.heading (Restricted m r)) a → Answers a (restricted m r)
  unfolding restricted
  restricts_to a u = answers (RaisedIn m r) r.heading (Restricted m r) (restricted m r) a (by_walk (all_of m r.tuples) refl) u

module _ {E : Type 0} (m : TermMeaning E) (items : List (Item E)) (r : RowsData) where
  by_items : (w : Result (List Attrs) Stop) → all_of (extended_at m items) r.tuples ≡ w → Unless (RaisedBy m items r) (IsRelationOf (extended_columns items r.heading) (Extended m items r)) (told (and_then w (λ us. Ok (relation_from (extended_columns items r.heading) us))))
  by_items (Ok us) is = extends m items r (extended_columns items r.heading) us (relation_from (extended_columns items r.heading) us) is (relation_of_is (extended_columns items r.heading) (tuple_set us))
  by_items (Err e) is = extension_fails m items r {W = Infallible} (λ (xs : List Attrs). xs) (IsRelationOf (extended_columns items r.heading) (Extended m items r)) (Raised e) is

  pub extended_is : UnlessRaised (RaisedBy m items r) (IsRelationOf (extended_columns items r.heading) (Extended m items r)) (extended m items r)
  unfolding extended
  extended_is = untold (RaisedBy m items r) (IsRelationOf (extended_columns items r.heading) (Extended m items r)) (extended m items r) (by_items (all_of (extended_at m items) r.tuples) refl)

  pub extends_to : {W : Type 0} (a : Result RowsData (Fault W)) → Unless (RaisedBy m items r) (IsRelationOf (extended_columns items r.heading) (Extended m items r)) a → Answers a (extended m items r)
  unfolding extended
  extends_to a u = answers (RaisedBy m items r) (extended_columns items r.heading) (Extended m items r) (extended m items r) a (by_items (all_of (extended_at m items) r.tuples) refl) u

  pub counts_to : {W : Type 0} (a : Result ℕ (Fault W)) → Unless (RaisedBy m items r) (IsLengthOf (extended_columns items r.heading) (Extended m items r)) a → Answers a (and_then (extended m items r) (λ s. Ok (length s.tuples)))
  counts_to a u = counts (RaisedBy m items r) (extended_columns items r.heading) (Extended m items r) (extended m items r) a extended_is u

pub summarizes_to : {E W : Type 0} (m : TermMeaning E) (items : List (Item (Summary E))) (r per : RowsData) (a : Result RowsData (Fault W))
    → Unless (RaisedBy (over_groups m r per.heading) items per) (IsRelationOf (extended_columns items per.heading) (Extended (over_groups m r per.heading) items per)) a → Answers a (summarized m items r per)
unfolding summarized
summarizes_to m items r per a u = extends_to (over_groups m r per.heading) items per a u

pub summarized_is : {E : Type 0} (m : TermMeaning E) (items : List (Item (Summary E))) (r per : RowsData)
    → UnlessRaised (RaisedBy (over_groups m r per.heading) items per) (IsRelationOf (extended_columns items per.heading) (Extended (over_groups m r per.heading) items per)) (summarized m items r per)
unfolding summarized
summarized_is m items r per = extended_is (over_groups m r per.heading) items per
