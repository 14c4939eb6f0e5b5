-- A reference of one base relvar to another one that gave up parts, or gained tuples to which nothing refers.
use Rattle.std.proofs.Common.{◌≡◌, ◌⊎◌, ⊎_elim, ◌&&◌, inl, inr, ℕ, Bool, true, false, if◌then◌else◌, List, [], ◌∷◌, Option, Some, None, Result, Ok, Err, refl, ap, sym, ◌∙◌, subst}
use Rattle.std.specs.Prelude.{slice_get}
use Rattle.std.specs.FinSet as set
use Rattle.std.specs.List.{cons_option, filter_map}
use Rattle.td_values.specs.Data.{Attrs, boolean, no_attrs}
use Rattle.td_values.specs.Headings.{Header}
use Rattle.td_values.specs.Proving.Total.{attrs_order_total}
use Rattle.td_values.specs.Rows.{RowsData}
use Rattle.td_syntax.specs.declared.tree.BinaryOperator.TheVariants as binary
use Rattle.td_syntax.specs.declared.tree.UnaryOperator.TheVariants as unary
use Rattle.td_tuples.specs.Parts.{Fits, columns_in, cut, is_in, names_of}
use Rattle.td_relations.specs.Sets.{Has, body}
use Rattle.td_typed_trees.specs.declared.expression.VirtualUnder.{VirtualUnder}
use Rattle.td_typed_trees.specs.declared.tree.Typed.{Typed}
use Rattle.td_typed_trees.specs.declared.tree.Typed.TheVariants as tree
use Rattle.td_algebra.specs.Functions.{matching_of, minus_of, not_matching_of, project_of}
use Rattle.td_algebra.specs.Nested.{relation_value}
use Rattle.td_algebra.specs.Raising.{and_then}
use Rattle.td_algebra.specs.declared.errors.Stop.{Stop}
use Rattle.td_algebra.specs.declared.errors.Stop.TheVariants.{Untyped}
use Rattle.td_algebra.proofs.Bridges.{minus_is}
use Rattle.td_algebra.proofs.Lists.{In, all_in}
use Rattle.td_algebra.proofs.Made.{has_fits, has_in, in_has}
use Rattle.td_headings.specs.Catalogues.{CatalogueData}
use Rattle.td_headings.specs.Expressions.{virtual_at, virtual_of}
use Rattle.td_headings.specs.Reached.{is_base}
use Rattle.td_headings.specs.declared.defined.Origin.{Origin}
use Rattle.td_headings.specs.declared.defined.Origin.TheVariants as origin
use Rattle.td_headings.specs.declared.defined.Test.TheVariants as test
use Rattle.td_meaning.specs.Mean.{Meaning, Names, Relvars, Selection, mean, mean_both, mean_by, mean_relvar, truth_in, within}
use Rattle.td_meaning.proofs.Forms as forms
use Rattle.td_operators.specs.Operators as operators
use Rattle.td_operators.specs.Operators.{as_value, is_subset, of_alike, of_relations, operate, operate_on, part_at, are_equal_headings}
use Rattle.td_operators.specs.Values.{rows_of}
use Rattle.td_type_soundness.specs.Meanings.{IsRelationOver, IsTupleOver}
use Rattle.td_type_soundness.proofs.Tables.{one_heading}
use Rattle.td_semantics.specs.Meanings.{no_names, with_virtual, with_virtuals}
use Rattle.td_semantics.specs.Tests.{judgement}
use Rattle.td_semantics.specs.Trees.{all_relvars, places, selection_of}
use Rattle.td_incremental.specs.Laws.{LostPartsAreJudged, UnmatchedGainsKeepReferences, has_none}
use Rattle.td_incremental.specs.References.{IsPartOf, SaysWithin, itself, at_names, matched, without, at_most, at_least}
use Rattle.td_incremental.proofs.Constraints.{inside, is_nothing, none_in, same_truth, true_of, truth_then}
use Rattle.td_incremental.proofs.KeptParts.{lessened}
use Rattle.td_incremental.proofs.Narrowing.{as_before, as_it_was, before_it, else_now, judged_before, judged_by_reads, ok_same}
use Rattle.td_incremental.proofs.SharedParts.{AllFit, AllMeet, IsCut, first_true, matched_where_met, met_where_matched, met_where_within, none_lost, project_cut, second_true, still_met, whole_cut, within_where_met}
use Rattle.td_incremental.proofs.Values.{part_of_rows, rows_back}
use Rattle.td_incremental.proofs.Virtuals.{not_base, put_other}
use Rattle.td_incremental.proofs.Widening.{emptied, is_empty, unmatched}

-- ---- no tuples
nothing_if : (r : RowsData) → ((t : Attrs) → Has r t → ⊥) → is_nothing r.tuples ≡ true
nothing_if r none = by r.tuples refl
  where
    by : (ts : List Attrs) → r.tuples ≡ ts → is_nothing ts ≡ true
    by [] is = refl
    by (t ∷ ts) is = absurd (none t (in_has r t (subst (In t) (sym is) (inl refl))))

none_if : (r : RowsData) → is_nothing r.tuples ≡ true → (t : Attrs) → Has r t → ⊥
none_if r e t has = none_in r.tuples e t (has_in r t has)

-- ---- what is said of two relations
abbrev if_proper : Bool → Bool → Result Bool Stop
if_proper p t = if p then Ok t else Err Untyped

abbrev answer : (x y u : Typed) → SaysWithin x y u → RowsData → RowsData → Result Bool Stop
answer x y u matched a b = Ok (is_nothing (not_matching_of a b).tuples)
answer x y u without a b = if_proper (are_equal_headings a.heading b.heading) (is_nothing (minus_of a b).tuples)
answer x y u at_most a b = if_proper (are_equal_headings a.heading b.heading) (is_subset a b)
answer x y u at_least a b = if_proper (are_equal_headings a.heading b.heading) (is_subset a b)

-- both have the headings that it asks for
abbrev IsProper : (x y u : Typed) → SaysWithin x y u → RowsData → RowsData → Type 0
IsProper x y u matched a b = Unit {0}
IsProper x y u without a b = are_equal_headings a.heading b.heading ≡ true
IsProper x y u at_most a b = are_equal_headings a.heading b.heading ≡ true
IsProper x y u at_least a b = are_equal_headings a.heading b.heading ≡ true

one_truth : (t w : Bool) → ◌≡◌ {A = Result Bool Stop} (Ok t) (Ok w) → t ≡ w
one_truth t w e = cc

proper_and : (p t w : Bool) → if_proper p t ≡ Ok w → (p ≡ true) × (t ≡ w)
proper_and true t w e = (refl, one_truth t w e)
proper_and false t w e = cc

improper : (p t w : Bool) (f : Stop) → if_proper p t ≡ Err f → if_proper p w ≡ Err f
improper true t w f e = cc
improper false t w f e = e

proper : (x y u : Typed) (says : SaysWithin x y u) (a b : RowsData) (t : Bool) → answer x y u says a b ≡ Ok t → IsProper x y u says a b
proper x y u matched a b t e = tt
proper x y u without a b t e = (proper_and (are_equal_headings a.heading b.heading) (is_nothing (minus_of a b).tuples) t e).0
proper x y u at_most a b t e = (proper_and (are_equal_headings a.heading b.heading) (is_subset a b) t e).0
proper x y u at_least a b t e = (proper_and (are_equal_headings a.heading b.heading) (is_subset a b) t e).0

still_improper : (x y u : Typed) (says : SaysWithin x y u) (a b v : RowsData) (f : Stop) → b.heading ≡ v.heading → answer x y u says a b ≡ Err f → answer x y u says a v ≡ Err f
still_improper x y u matched a b v f same e = cc
still_improper x y u without a b v f same e =
    ap (λ h. if_proper (are_equal_headings a.heading h) (is_nothing (minus_of a v).tuples)) (sym same)
    ∙ improper (are_equal_headings a.heading b.heading) (is_nothing (minus_of a b).tuples) (is_nothing (minus_of a v).tuples) f e
still_improper x y u at_most a b v f same e = ap (λ h. if_proper (are_equal_headings a.heading h) (is_subset a v)) (sym same) ∙ improper (are_equal_headings a.heading b.heading) (is_subset a b) (is_subset a v) f e
still_improper x y u at_least a b v f same e = ap (λ h. if_proper (are_equal_headings a.heading h) (is_subset a v)) (sym same) ∙ improper (are_equal_headings a.heading b.heading) (is_subset a b) (is_subset a v) f e

still_proper : (x y u : Typed) (says : SaysWithin x y u) (a b v : RowsData) → b.heading ≡ v.heading → IsProper x y u says a b → IsProper x y u says a v
still_proper x y u matched a b v same h = tt
still_proper x y u without a b v same h = ap (are_equal_headings a.heading) (sym same) ∙ h
still_proper x y u at_most a b v same h = ap (are_equal_headings a.heading) (sym same) ∙ h
still_proper x y u at_least a b v same h = ap (are_equal_headings a.heading) (sym same) ∙ h

module _ (a b : RowsData) where
  abbrev Within : Type 0
  Within = (t : Attrs) → Has a t → Has b t

  by_minus : ((t : Attrs) → Has (minus_of a b) t → ⊥) → Within
  by_minus none t has = by (set.contains (body b) t) refl
    where
      by : (w : Bool) → set.contains (body b) t ≡ w → Has b t
      by true e = e
      by false e = absurd (none t ((minus_is a b).all t (has, λ there. let no : true ≡ false = sym there ∙ e in cc)))

  to_minus : Within → (t : Attrs) → Has (minus_of a b) t → ⊥
  to_minus within t has = let p = (minus_is a b).only t has in p.1 (within t p.0)

  by_subset : is_subset a b ≡ true → Within
  by_subset e = set.is_subset-contains attrs_order_total (body a) (body b) e

  to_subset : Within → is_subset a b ≡ true
  to_subset within = set.contains-is_subset attrs_order_total (body a) (body b) within

module _ (ps qs : List ℕ → Bool) (r s a b : RowsData) (one : IsCut ps r a) (other : IsCut qs s b) (q : List (List ℕ))
    (shared : (x : List ℕ) → is_in q x ≡ ((is_in (names_of r.heading) x && ps x) && (is_in (names_of s.heading) x && qs x)))
    (fit_one : AllFit r) (fit_other : AllFit s) where
  by_matched : is_nothing (not_matching_of a b).tuples ≡ true → AllMeet q r s
  by_matched e = met_where_matched ps qs r s a b one other q shared fit_one fit_other (none_if (not_matching_of a b) e)

  to_matched : AllMeet q r s → is_nothing (not_matching_of a b).tuples ≡ true
  to_matched met = nothing_if (not_matching_of a b) (matched_where_met ps qs r s a b one other q shared fit_one fit_other met)

  module _ (same : are_equal_headings a.heading b.heading ≡ true) where
    by_within : ((t : Attrs) → Has a t → Has b t) → AllMeet q r s
    by_within = met_where_within ps qs r s a b one other q shared fit_one fit_other (one_heading a.heading b.heading same)

    to_within : AllMeet q r s → (t : Attrs) → Has a t → Has b t
    to_within = within_where_met ps qs r s a b one other q shared fit_one fit_other (one_heading a.heading b.heading same)

  met_by : (x y u : Typed) (says : SaysWithin x y u) → answer x y u says a b ≡ Ok true → AllMeet q r s
  met_by x y u matched e = by_matched (true_of (is_nothing (not_matching_of a b).tuples) e)
  met_by x y u without e = let is = proper_and (are_equal_headings a.heading b.heading) (is_nothing (minus_of a b).tuples) true e in by_within is.0 (by_minus a b (none_if (minus_of a b) is.1))
  met_by x y u at_most e = let is = proper_and (are_equal_headings a.heading b.heading) (is_subset a b) true e in by_within is.0 (by_subset a b is.1)
  met_by x y u at_least e = let is = proper_and (are_equal_headings a.heading b.heading) (is_subset a b) true e in by_within is.0 (by_subset a b is.1)

  module _ (t : Bool) (there : AllMeet q r s → t ≡ true) (back : t ≡ true → AllMeet q r s) where
    by_subsets : are_equal_headings a.heading b.heading ≡ true → if_proper (are_equal_headings a.heading b.heading) (is_subset a b) ≡ Ok t
    by_subsets is =
        ap (λ p. if_proper p (is_subset a b)) is
        ∙ ap Ok (same_truth (is_subset a b) t (λ e. there (by_within is (by_subset a b e))) (λ e. to_subset a b (to_within is (back e))))

    told_by : (x y u : Typed) (says : SaysWithin x y u) → IsProper x y u says a b → answer x y u says a b ≡ Ok t
    told_by x y u matched is = ap Ok (same_truth (is_nothing (not_matching_of a b).tuples) t (λ e. there (by_matched e)) (λ e. to_matched (back e)))
    told_by x y u without is =
        ap (λ p. if_proper p (is_nothing (minus_of a b).tuples)) is
        ∙ ap Ok (same_truth (is_nothing (minus_of a b).tuples) t (λ e. there (by_within is (by_minus a b (none_if (minus_of a b) e)))) (λ e. nothing_if (minus_of a b) (to_minus a b (to_within is (back e)))))
    told_by x y u at_most is = by_subsets is
    told_by x y u at_least is = by_subsets is

-- ---- meanings
less_emptied : (p : Bool) (q : RowsData) → is_empty (and_then (if p then Ok q else Err Untyped) as_value) ≡ if_proper p (is_nothing q.tuples)
less_emptied true q = emptied q
less_emptied false q = refl

inside_told : (p t : Bool) → truth_then (if p then Ok (boolean t) else Err Untyped) ≡ if_proper p t
inside_told true t = refl
inside_told false t = refl

module _ (f g : Meaning) (names : Names) (a b : RowsData) (one : f names ≡ as_value a) (other : g names ≡ as_value b) where
  matched_means : truth_in (mean_by (operate_on unary.IsEmpty) (mean_both binary.NotMatching f g)) names ≡ Ok (is_nothing (not_matching_of a b).tuples)
  unfolding truth_in mean_by mean_both of_relations
  matched_means =
      (λ i. is_empty (and_then (one i) (λ d. and_then (other i) (operate binary.NotMatching d))))
      ∙ (λ i. is_empty (unmatched (rows_back a i) (rows_back b i)))
      ∙ emptied (not_matching_of a b)

  less_means : truth_in (mean_by (operate_on unary.IsEmpty) (mean_both binary.Minus f g)) names ≡ if_proper (are_equal_headings a.heading b.heading) (is_nothing (minus_of a b).tuples)
  unfolding truth_in mean_by mean_both of_relations
  less_means =
      (λ i. is_empty (and_then (one i) (λ d. and_then (other i) (operate binary.Minus d))))
      ∙ (λ i. is_empty (lessened (rows_back a i) (rows_back b i)))
      ∙ less_emptied (are_equal_headings a.heading b.heading) (minus_of a b)

  alike_is : operators.at_most (relation_value a) (relation_value b) ≡ inside (rows_of (relation_value b)) a
  unfolding of_alike
  alike_is = λ i. and_then (and_then (rows_back a i) (λ r. and_then (rows_of (relation_value b)) (λ s. Ok (r, s)))) (λ (p : RowsData × RowsData). operators.if_alike p.0 p.1 (boolean (is_subset p.0 p.1)))

  subset_is : truth_then (operators.at_most (relation_value a) (relation_value b)) ≡ if_proper (are_equal_headings a.heading b.heading) (is_subset a b)
  subset_is = ap truth_then alike_is ∙ (λ i. truth_then (inside (rows_back b i) a)) ∙ inside_told (are_equal_headings a.heading b.heading) (is_subset a b)

  at_most_means : truth_in (mean_both binary.AtMost f g) names ≡ if_proper (are_equal_headings a.heading b.heading) (is_subset a b)
  unfolding truth_in mean_both
  at_most_means = (λ i. truth_then (and_then (one i) (λ d. and_then (other i) (operators.at_most d)))) ∙ subset_is

  at_least_means : truth_in (mean_both binary.AtLeast g f) names ≡ if_proper (are_equal_headings a.heading b.heading) (is_subset a b)
  unfolding truth_in mean_both
  at_least_means = (λ i. truth_then (and_then (other i) (λ e. and_then (one i) (λ d. operators.at_most d e)))) ∙ subset_is

module _ (k : Relvars) (p : Selection) (names : Names) where
  of_says : (x y u : Typed) (says : SaysWithin x y u) (a b : RowsData) → mean k p x names ≡ as_value a → mean k p y names ≡ as_value b → truth_in (mean k p u) names ≡ answer x y u says a b
  of_says x y u matched a b one other =
      ap (λ m. truth_in m names) (forms.of_unary k p unary.IsEmpty (tree.Binary binary.NotMatching x y) ∙ ap (mean_by (operate_on unary.IsEmpty)) (forms.of_binary k p binary.NotMatching x y))
      ∙ matched_means (mean k p x) (mean k p y) names a b one other
  of_says x y u without a b one other =
      ap (λ m. truth_in m names) (forms.of_unary k p unary.IsEmpty (tree.Binary binary.Minus x y) ∙ ap (mean_by (operate_on unary.IsEmpty)) (forms.of_binary k p binary.Minus x y))
      ∙ less_means (mean k p x) (mean k p y) names a b one other
  of_says x y u at_most a b one other = ap (λ m. truth_in m names) (forms.of_binary k p binary.AtMost x y) ∙ at_most_means (mean k p x) (mean k p y) names a b one other
  of_says x y u at_least a b one other = ap (λ m. truth_in m names) (forms.of_binary k p binary.AtLeast y x) ∙ at_least_means (mean k p x) (mean k p y) names a b one other

-- ---- parts of relvars
abbrev part_rows : (m : ℕ) (h : Header) (ns : List (List ℕ)) (u : Typed) → IsPartOf m h ns u → RowsData → RowsData
part_rows m h ns u (itself all) r = r
part_rows m h ns u at_names r = project_of ns r

part_cut : (m : ℕ) (h : Header) (ns : List (List ℕ)) (u : Typed) (of : IsPartOf m h ns u) (r : RowsData) → r.heading ≡ h → AllFit r → IsCut (is_in ns) r (part_rows m h ns u of r)
part_cut m h ns u (itself all) r is fit = subst (λ xs. IsCut (is_in xs) r r) (ap names_of is ∙ sym all) (whole_cut r fit)
part_cut m h ns u at_names r is fit = project_cut ns r

part_heading : (m : ℕ) (h : Header) (ns : List (List ℕ)) (u : Typed) (of : IsPartOf m h ns u) (r s : RowsData) → r.heading ≡ s.heading → (part_rows m h ns u of r).heading ≡ (part_rows m h ns u of s).heading
unfolding project_of
part_heading m h ns u (itself all) r s e = e
part_heading m h ns u at_names r s e = ap (columns_in ns) e

relvar_value : (k : Relvars) (m : ℕ) (names : Names) (r : RowsData) → k m ≡ Ok r → mean_relvar k m names ≡ as_value r
unfolding mean_relvar
relvar_value k m names r e = ap (λ x. and_then x as_value) e

project_value : (f : Meaning) (ns : List (List ℕ)) (names : Names) (r : RowsData) → f names ≡ as_value r → mean_by (part_at ns) f names ≡ as_value (project_of ns r)
unfolding mean_by
project_value f ns names r e = ap (λ x. and_then x (part_at ns)) e ∙ part_of_rows ns (relation_value r) r (rows_back r)

part_value : (k : Relvars) (p : Selection) (names : Names) (m : ℕ) (h : Header) (ns : List (List ℕ)) (u : Typed) (of : IsPartOf m h ns u) (r : RowsData) → k m ≡ Ok r → mean k p u names ≡ as_value (part_rows m h ns u of r)
part_value k p names m h ns u (itself all) r e = (λ i. forms.of_relvar k p m i names) ∙ relvar_value k m names r e
part_value k p names m h ns u at_names r e =
    (λ i. (forms.of_project k p (tree.Relvar m) ns ∙ ap (mean_by (part_at ns)) (forms.of_relvar k p m)) i names)
    ∙ project_value (mean_relvar k m) ns names r (relvar_value k m names r e)

-- ---- base relvars among all
module _ (c : CatalogueData) (p : Selection) (k : ℕ) (base : is_base (slice_get c.origins k) ≡ true) where
  one_place : (m : ℕ) (vs : List VirtualUnder) → ((r : Relvars) → with_virtuals p vs r k ≡ r k) → (r : Relvars) (o : Option Origin) → slice_get c.origins m ≡ o → with_virtuals p (cons_option (virtual_of m o) vs) r k ≡ r k
  one_place m vs rest r None is = rest r
  one_place m vs rest r (Some (origin.Base ks e)) is = rest r
  one_place m vs rest r (Some (origin.Virtual u)) is =
      let v : VirtualUnder = record { place = m; tree = u } in
      rest (with_virtual p r v) ∙ put_other p r v k (not_base c k base m u is)

  base_stays : (ns : List ℕ) (r : Relvars) → with_virtuals p (filter_map (virtual_at c) ns) r k ≡ r k
  base_stays [] r = refl
  base_stays (m ∷ ms) r = one_place m (filter_map (virtual_at c) ms) (base_stays ms) r (slice_get c.origins m) refl

-- ---- judgements
module _ (c : CatalogueData) (m n : ℕ) (one_base : is_base (slice_get c.origins m) ≡ true) (base : is_base (slice_get c.origins n) ≡ true) (a b u : Typed) (says : SaysWithin a b u)
    (g h : Header) (xs ys : List (List ℕ)) (of_one : IsPartOf m g xs a) (of_other : IsPartOf n h ys b) where
  abbrev one_rows : RowsData → RowsData
  one_rows r = part_rows m g xs a of_one r

  abbrev other_rows : RowsData → RowsData
  other_rows s = part_rows n h ys b of_other s

  judged : (k : Relvars) (x : List ℕ) (r s : RowsData) → k m ≡ Ok r → k n ≡ Ok s → judgement c k (test.Constraint x u) ≡ answer a b u says (one_rows r) (other_rows s)
  unfolding truth_in
  judged k x r s is there =
      of_says (all_relvars c k) (selection_of c) (within no_attrs no_names) a b u says (one_rows r) (other_rows s)
      (part_value (all_relvars c k) (selection_of c) (within no_attrs no_names) m g xs a of_one r (base_stays c (selection_of c) m one_base (places c.origins) k ∙ is))
      (part_value (all_relvars c k) (selection_of c) (within no_attrs no_names) n h ys b of_other s (base_stays c (selection_of c) n base (places c.origins) k ∙ there))

  abbrev AreShared : List (List ℕ) → Header → Header → Type 0
  AreShared q j k = (x : List ℕ) → is_in q x ≡ ((is_in (names_of j) x && is_in xs x) && (is_in (names_of k) x && is_in ys x))

  shared_of : (q : List (List ℕ)) (j k : Header) → AreShared q g h → j ≡ g → k ≡ h → AreShared q j k
  shared_of q j k shared is there x = shared x ∙ (λ i. (is_in (names_of (sym is i)) x && is_in xs x) && (is_in (names_of (sym there i)) x && is_in ys x))

  module _ (q : List (List ℕ)) (shared : AreShared q g h)
      (r s w parts : RowsData) (of_g : r.heading ≡ g) (of_h : s.heading ≡ h) (still_h : w.heading ≡ h) (fit_one : AllFit r) (fit_before : AllFit s) (fit_now : AllFit w)
      (heading : parts.heading ≡ columns_in q s.heading) (only : (p : Attrs) → Has parts p → (t : Attrs) × Has s t × (p ≡ cut q t))
      (either : (t : Attrs) → Has s t → ((v : Attrs) × Has w v × (cut q v ≡ cut q t)) ⊎ Has parts (cut q t)) where
    abbrev lost : RowsData
    lost = matching_of (not_matching_of parts w) r

    same : s.heading ≡ w.heading
    same = of_h ∙ sym still_h

    one_has : (x : List ℕ) → is_in q x ≡ true → is_in (names_of r.heading) x ≡ true
    one_has x e = ap (λ k. is_in (names_of k) x) of_g ∙ first_true (is_in (names_of g) x) (is_in xs x) (first_true (is_in (names_of g) x && is_in xs x) (is_in (names_of h) x && is_in ys x) (sym (shared x) ∙ e))

    other_has : (x : List ℕ) → is_in q x ≡ true → is_in (names_of s.heading) x ≡ true
    other_has x e = ap (λ k. is_in (names_of k) x) of_h ∙ first_true (is_in (names_of h) x) (is_in ys x) (second_true (is_in (names_of g) x && is_in xs x) (is_in (names_of h) x && is_in ys x) (sym (shared x) ∙ e))

    was_met : answer a b u says (one_rows r) (other_rows s) ≡ Ok true → AllMeet q r s
    was_met =
        met_by (is_in xs) (is_in ys) r s (one_rows r) (other_rows s) (part_cut m g xs a of_one r of_g fit_one) (part_cut n h ys b of_other s of_h fit_before)
        q (shared_of q r.heading s.heading shared of_g of_h) fit_one fit_before a b u says

    now_told : answer a b u says (one_rows r) (other_rows s) ≡ Ok true → answer a b u says (one_rows r) (other_rows w) ≡ Ok (has_none lost)
    now_told e =
        told_by (is_in xs) (is_in ys) r w (one_rows r) (other_rows w) (part_cut m g xs a of_one r of_g fit_one) (part_cut n h ys b of_other w still_h fit_now)
        q (shared_of q r.heading w.heading shared of_g still_h) fit_one fit_now (has_none lost)
        (λ met. nothing_if lost (none_lost q r s w parts fit_one fit_before fit_now same one_has other_has heading only met))
        (λ none. still_met q r s w parts fit_one fit_before fit_now same one_has other_has heading only (was_met e) either (none_if lost none))
        a b u says
        (still_proper a b u says (one_rows r) (other_rows s) (other_rows w) (part_heading n h ys b of_other s w same) (proper a b u says (one_rows r) (other_rows s) true e))

  -- ---- tuples to which nothing refers
  module _ (q : List (List ℕ)) (shared : AreShared q g h) (r s w : RowsData) (of_g : r.heading ≡ g) (of_h : s.heading ≡ h) (still_h : w.heading ≡ h) (fit_one : AllFit r) (fit_before : AllFit s) (fit_now : AllFit w)
      (kept : (t : Attrs) → Has s t → Has w t) (unmatched : (t v : Attrs) → Has r t → Has w v → cut q t ≡ cut q v → Has s v) where
    meet_now : AllMeet q r s → AllMeet q r w
    meet_now met t has = let v = met t has in (v.0, kept v.0 v.1, v.2)

    met_then : AllMeet q r w → AllMeet q r s
    met_then met t has = let v = met t has in (v.0, unmatched t v.0 has v.1 (sym v.2), v.2)

    says_of : (v : RowsData) → v.heading ≡ h → AllFit v → (t : Bool) → (AllMeet q r v → t ≡ true) → (t ≡ true → AllMeet q r v) → IsProper a b u says (one_rows r) (other_rows v) → answer a b u says (one_rows r) (other_rows v) ≡ Ok t
    says_of v is fit t there back =
        told_by (is_in xs) (is_in ys) r v (one_rows r) (other_rows v) (part_cut m g xs a of_one r of_g fit_one) (part_cut n h ys b of_other v is fit)
        q (shared_of q r.heading v.heading shared of_g is) fit_one fit t there back a b u says

    met_where_true : answer a b u says (one_rows r) (other_rows s) ≡ Ok true → AllMeet q r s
    met_where_true =
        met_by (is_in xs) (is_in ys) r s (one_rows r) (other_rows s) (part_cut m g xs a of_one r of_g fit_one) (part_cut n h ys b of_other s of_h fit_before)
        q (shared_of q r.heading s.heading shared of_g of_h) fit_one fit_before a b u says

    one_heading_more : (other_rows s).heading ≡ (other_rows w).heading
    one_heading_more = part_heading n h ys b of_other s w (of_h ∙ sym still_h)

    same_answer : answer a b u says (one_rows r) (other_rows w) ≡ answer a b u says (one_rows r) (other_rows s)
    same_answer = by (answer a b u says (one_rows r) (other_rows s)) refl
      where
        by : (z : Result Bool Stop) → answer a b u says (one_rows r) (other_rows s) ≡ z → answer a b u says (one_rows r) (other_rows w) ≡ answer a b u says (one_rows r) (other_rows s)
        by (Ok t) e =
            let is = proper a b u says (one_rows r) (other_rows s) t e in
            says_of w still_h fit_now t
            (λ met. one_truth t true (sym e ∙ says_of s of_h fit_before true (λ some. refl) (λ yes_. met_then met) is))
            (λ true_. meet_now (met_where_true (e ∙ ap Ok true_)))
            (still_proper a b u says (one_rows r) (other_rows s) (other_rows w) one_heading_more is)
            ∙ sym e
        by (Err f) e = still_improper a b u says (one_rows r) (other_rows s) (other_rows w) f one_heading_more e ∙ sym e

pub unmatched_gains_keep_references : UnmatchedGainsKeepReferences
unmatched_gains_keep_references c old now n m q r s w x u base beside ref one before after kept unmatched =
    let was = before_it old now n in
    judged c m n ref.base base ref.a ref.b u ref.says ref.one.value ref.other.value ref.one_names ref.other_names ref.of_one ref.of_other now x r w one.is after.is
    ∙ same_answer c m n ref.base base ref.a ref.b u ref.says ref.one.value ref.other.value ref.one_names ref.other_names ref.of_one ref.of_other
    q ref.shared r s w (one.heading ref.one ref.one_there) (before.heading ref.other ref.other_there) (after.heading ref.other ref.other_there)
    one.fit before.fit after.fit kept unmatched
    ∙ sym (judged c m n ref.base base ref.a ref.b u ref.says ref.one.value ref.other.value ref.one_names ref.other_names ref.of_one ref.of_other was x r s (sym (else_now old now n m ref.apart) ∙ one.is) (as_it_was old now n ∙ before.is))
    ∙ sym (judged_by_reads c old was x u (as_before old now n c u beside))

-- the tuples of a stored relvar fit its heading
stored_fit : (c : CatalogueData) (h : Header) (r : RowsData) → IsRelationOver c.schema h r → AllFit r
stored_fit c h r is t has = subst (λ g. Fits g t) (sym is.heading) (all_in (IsTupleOver c.schema h) r.tuples is.tuples t (has_in r t has)).0

pub lost_parts_are_judged : LostPartsAreJudged
lost_parts_are_judged c old now n m q parts r s x u base beside stored g ref is there e =
    let was = before_it old now n in
    let in_one = stored m ref.one ref.base ref.one_there in
    let in_other = stored n ref.other base ref.other_there in
    let one_over = subst (IsRelationOver c.schema ref.one.value) (ok_same in_one.0 r (sym in_one.1 ∙ is)) in_one.2 in
    let other_over = subst (IsRelationOver c.schema ref.other.value) (ok_same in_other.0 s (sym in_other.1 ∙ there)) in_other.2 in
    let after = ok_same g.after s (sym g.is ∙ there) in
    let same = g.one_heading ∙ ap (λ (w : RowsData). w.heading) after in
    let held = judged_before old now n c x u beside e in
    judged c m n ref.base base ref.a ref.b u ref.says ref.one.value ref.other.value ref.one_names ref.other_names ref.of_one ref.of_other now x r s is there
    ∙ now_told c m n ref.base base ref.a ref.b u ref.says ref.one.value ref.other.value ref.one_names ref.other_names ref.of_one ref.of_other
    q ref.shared r g.before s parts one_over.heading (same ∙ other_over.heading) other_over.heading
    (stored_fit c ref.one.value r one_over) (has_fits g.before g.was_rows) (stored_fit c ref.other.value s other_over)
    g.heading g.only
    (λ t has. ⊎_elim (λ k. inl (k.0, subst (λ (w : RowsData). Has w k.0) after k.1, k.2)) (λ k. inr k) (g.either t has))
    (sym (judged c m n ref.base base ref.a ref.b u ref.says ref.one.value ref.other.value ref.one_names ref.other_names ref.of_one ref.of_other was x r g.before (sym (else_now old now n m ref.apart) ∙ is) (as_it_was old now n ∙ g.was)) ∙ held)
