-- What an expression means goes by the names that it asks for.
use Rattle.std.proofs.Common.{◌≡◌, ◌⊎◌, ℕ, List, [], ◌∷◌, map, Option, None, Some, true, false, cond, Result, Ok, Err, refl, ap, sym, subst, inl, inr}
use Rattle.td_values.specs.Attributes.{attribute_of}
use Rattle.td_values.specs.Data.{Ty, Datum, Attrs, boolean}
use Rattle.td_values.specs.Headings.{Header}
use Rattle.td_values.specs.Rows.{RowsData}
use Rattle.td_syntax.specs.declared.tree.BinaryOperator.{BinaryOperator}
use Rattle.td_syntax.specs.declared.tree.BinaryOperator.TheVariants as binary
use Rattle.td_syntax.specs.declared.tree.Named.{Named}
use Rattle.td_tuples.specs.declared.items.Item.{Item}
use Rattle.td_tuples.specs.declared.items.Summary.{Summary}
use Rattle.td_tuples.specs.declared.items.Summary.TheVariants as summary
use Rattle.td_typed_trees.specs.declared.tree.TypedGroups.{TypedGroups}
use Rattle.td_typed_trees.specs.declared.tree.TypedGroups.TheVariants as groups
use Rattle.td_typed_trees.specs.declared.tree.Typed.{Typed, map-Typed}
use Rattle.td_typed_trees.specs.declared.tree.Typed.TheOpen.{Typed-F}
use Rattle.td_typed_trees.specs.declared.tree.Typed.TheViews.{roll-Typed}
use Rattle.td_typed_trees.specs.declared.tree.Typed.TheFolds.{fold-roll-Typed, ind-Typed}
use Rattle.td_typed_trees.specs.declared.tree.Typed.TheShapes.{former-Typed-Summarize-2-at-13}
use Rattle.td_algebra.specs.declared.errors.Stop.{Stop}
use Rattle.td_values.specs.declared.raises.Raise.TheVariants.{Overflow, Divide, Empty, Selector, Cardinality}
use Rattle.td_algebra.specs.declared.errors.Stop.TheVariants.{Untyped, Error}
use Rattle.td_algebra.specs.Extending.{extended_at, field_at, typed_field}
use Rattle.td_algebra.specs.Functions.{restricted, extended, summarized}
use Rattle.td_algebra.specs.Raising.{all_of, alone, and_all, and_then}
use Rattle.td_algebra.specs.Summaries.{fold_of, group_of, over_groups, summary_over}
use Rattle.td_meaning.specs.Laws.{AreFewer, IsUntypedOrSame}
use Rattle.td_meaning.specs.Mean.{Meaning, Names, Relvars, Selection, mean, mean_step, at, given, groups_at, introduced, mean_aggregate, mean_and, mean_binary, mean_both, mean_by, mean_extend, mean_if, mean_local, mean_or, mean_relation, mean_relvar, mean_select, mean_summarize, mean_tuple, mean_where, mean_with, named_at, or_else, rows_in, are_equal_names, truth_at, truth_in, value_at, within}
use Rattle.td_operators.specs.Operators.{as_value, in_turn, operate}
use Rattle.td_operators.specs.Values.{known, rows_of, truth_of}

-- ---- answers
stays_then : {A B : Type 0} (w v : Result A Stop) (f g : A → Result B Stop) → IsUntypedOrSame w v → ((a : A) → IsUntypedOrSame (f a) (g a)) → IsUntypedOrSame (and_then w f) (and_then v g)
stays_then w v f g (inl e) each = inl (ap (λ x. and_then x f) e)
stays_then (Ok a) v f g (inr e) each = subst (λ x. IsUntypedOrSame (f a) (and_then x g)) e (each a)
stays_then (Err s) v f g (inr e) each = inr (ap (λ x. and_then x g) e)

wanting_behind : {A : Type 0} (w : Result A Stop) (rest : Result (List A) Stop) → rest ≡ Err Untyped → and_all (alone w) rest ≡ Err Untyped
wanting_behind (Ok a) rest e = ap (and_all (alone (Ok a))) e
wanting_behind (Err Untyped) rest e = ap (and_all (Err Untyped)) e
wanting_behind (Err (Error Overflow)) rest e = ap (and_all (Err (Error Overflow))) e
wanting_behind (Err (Error Divide)) rest e = ap (and_all (Err (Error Divide))) e
wanting_behind (Err (Error Empty)) rest e = ap (and_all (Err (Error Empty))) e
wanting_behind (Err (Error Selector)) rest e = ap (and_all (Err (Error Selector))) e
wanting_behind (Err (Error Cardinality)) rest e = ap (and_all (Err (Error Cardinality))) e

wanting_first : {A : Type 0} (w : Result A Stop) (rest : Result (List A) Stop) → w ≡ Err Untyped → and_all (alone w) rest ≡ Err Untyped
wanting_first w (Ok rest) e = ap (λ x. and_all (alone x) (Ok rest)) e
wanting_first w (Err Untyped) e = ap (λ x. and_all (alone x) (Err Untyped)) e
wanting_first w (Err (Error Overflow)) e = ap (λ x. and_all (alone x) (Err (Error Overflow))) e
wanting_first w (Err (Error Divide)) e = ap (λ x. and_all (alone x) (Err (Error Divide))) e
wanting_first w (Err (Error Empty)) e = ap (λ x. and_all (alone x) (Err (Error Empty))) e
wanting_first w (Err (Error Selector)) e = ap (λ x. and_all (alone x) (Err (Error Selector))) e
wanting_first w (Err (Error Cardinality)) e = ap (λ x. and_all (alone x) (Err (Error Cardinality))) e

stays_beside : {A : Type 0} (w v : Result A Stop) (r s : Result (List A) Stop) → IsUntypedOrSame w v → IsUntypedOrSame r s → IsUntypedOrSame (and_all (alone w) r) (and_all (alone v) s)
stays_beside w v r s (inl e) later = inl (wanting_first w r e)
stays_beside w v r s (inr e) (inl d) = inl (wanting_behind w r d)
stays_beside w v r s (inr e) (inr d) = inr (λ i. and_all (alone (e i)) (d i))

stays_all : {X A : Type 0} (xs : List X) (f g : X → Result A Stop) → ((x : X) → IsUntypedOrSame (f x) (g x)) → IsUntypedOrSame (all_of f xs) (all_of g xs)
stays_all [] f g each = inr refl
stays_all (x ∷ xs) f g each = stays_beside (f x) (g x) (all_of f xs) (all_of g xs) (each x) (stays_all xs f g each)

module _ {P X A : Type 0} (see : P → X) (f g : X → Result A Stop) (each : (p : P) → IsUntypedOrSame (f (see p)) (g (see p))) where
  stays_seen : (ps : List P) → IsUntypedOrSame (all_of f (map see ps)) (all_of g (map see ps))
  stays_seen [] = inr refl
  stays_seen (p ∷ ps) = stays_beside (f (see p)) (g (see p)) (all_of f (map see ps)) (all_of g (map see ps)) (each p) (stays_seen ps)

  stays_in_turn : (ps : List P) → IsUntypedOrSame (in_turn f (map see ps)) (in_turn g (map see ps))
  stays_in_turn [] = inr refl
  stays_in_turn (p ∷ ps) =
      stays_then (f (see p)) (g (see p)) (λ a. and_then (in_turn f (map see ps)) (λ rest. Ok (a ∷ rest))) (λ a. and_then (in_turn g (map see ps)) (λ rest. Ok (a ∷ rest))) (each p)
      (λ a. stays_then (in_turn f (map see ps)) (in_turn g (map see ps)) (λ rest. Ok (a ∷ rest)) (λ rest. Ok (a ∷ rest)) (stays_in_turn ps) (λ rest. inr refl))

-- ---- names
stays_known : (o p : Option Datum) → (o ≡ None) ⊎ (o ≡ p) → IsUntypedOrSame (known o) (known p)
stays_known o p (inl e) = inl (ap known e)
stays_known o p (inr e) = inr (ap known e)

hidden_by : (o : Option Datum) (f n : Option Datum) → (f ≡ None) ⊎ (f ≡ n) → (or_else o f ≡ None) ⊎ (or_else o f ≡ or_else o n)
hidden_by None f n h = h
hidden_by (Some d) f n h = inr refl

fewer_within : (t : Attrs) (few names : Names) → AreFewer few names → AreFewer (within t few) (within t names)
fewer_within t few names h x = hidden_by (attribute_of x t) (few x) (names x) (h x)

fewer_given : (n : List ℕ) (d : Datum) (few names : Names) → AreFewer few names → AreFewer (given n d few) (given n d names)
fewer_given n d few names h x = elim (are_equal_names n x) as (λ b. (cond b (Some d) (few x) ≡ None) ⊎ (cond b (Some d) (few x) ≡ cond b (Some d) (names x))) [ true ↦ inr refl | false ↦ h x ]

abbrev Steady : Meaning → Type 0
Steady m = (few names : Names) → AreFewer few names → IsUntypedOrSame (m few) (m names)

steady_truth : (m : Meaning) → Steady m → (few names : Names) → AreFewer few names → IsUntypedOrSame (truth_in m few) (truth_in m names)
unfolding truth_in
steady_truth m h few names are = stays_then (m few) (m names) truth_of truth_of (h few names are) (λ d. inr refl)

steady_rows : (m : Meaning) → Steady m → (few names : Names) → AreFewer few names → IsUntypedOrSame (rows_in m few) (rows_in m names)
unfolding rows_in
steady_rows m h few names are = stays_then (m few) (m names) rows_of rows_of (h few names are) (λ d. inr refl)

-- ---- the forms
steady_local : (x : List ℕ) → Steady (mean_local x)
unfolding mean_local
steady_local x few names are = stays_known (few x) (names x) (are x)

steady_relvar : (relvars : Relvars) (n : ℕ) → Steady (mean_relvar relvars n)
unfolding mean_relvar
steady_relvar relvars n few names are = inr refl

steady_by : (f : Datum → Result Datum Stop) (m : Meaning) → Steady m → Steady (mean_by f m)
unfolding mean_by
steady_by f m h few names are = stays_then (m few) (m names) f f (h few names are) (λ d. inr refl)

steady_both : (o : BinaryOperator) (a b : Meaning) → Steady a → Steady b → Steady (mean_both o a b)
unfolding mean_both
steady_both o a b ha hb few names are = stays_then (a few) (a names) (λ d. and_then (b few) (operate o d)) (λ d. and_then (b names) (operate o d)) (ha few names are) (λ d. stays_then (b few) (b names) (operate o d) (operate o d) (hb few names are) (λ e. inr refl))

module _ (a b : Meaning) (ha : Steady a) (hb : Steady b) where
  second : (few names : Names) → AreFewer few names → IsUntypedOrSame (and_then (truth_in b few) (λ u. Ok (boolean u))) (and_then (truth_in b names) (λ u. Ok (boolean u)))
  second few names are = stays_then (truth_in b few) (truth_in b names) (λ u. Ok (boolean u)) (λ u. Ok (boolean u)) (steady_truth b hb few names are) (λ u. inr refl)

  steady_and : Steady (mean_and a b)
  unfolding mean_and
  steady_and few names are = stays_then (truth_in a few) (truth_in a names) _ _ (steady_truth a ha few names are) (λ t. elim t as (λ t. IsUntypedOrSame (cond t (and_then (truth_in b few) (λ u. Ok (boolean u))) (Ok (boolean false))) (cond t (and_then (truth_in b names) (λ u. Ok (boolean u))) (Ok (boolean false)))) [ true ↦ second few names are | false ↦ inr refl ])

  steady_or : Steady (mean_or a b)
  unfolding mean_or
  steady_or few names are = stays_then (truth_in a few) (truth_in a names) _ _ (steady_truth a ha few names are) (λ t. elim t as (λ t. IsUntypedOrSame (cond t (Ok (boolean true)) (and_then (truth_in b few) (λ u. Ok (boolean u)))) (cond t (Ok (boolean true)) (and_then (truth_in b names) (λ u. Ok (boolean u))))) [ true ↦ inr refl | false ↦ second few names are ])

steady_binary : (o : BinaryOperator) (a b : Meaning) → Steady a → Steady b → Steady (mean_binary o a b)
steady_binary binary.And a b ha hb = steady_and a b ha hb
steady_binary binary.Or a b ha hb = steady_or a b ha hb
steady_binary o a b ha hb = steady_both o a b ha hb

steady_if : (c a b : Meaning) → Steady c → Steady a → Steady b → Steady (mean_if c a b)
unfolding mean_if
steady_if c a b hc ha hb few names are = stays_then (truth_in c few) (truth_in c names) _ _ (steady_truth c hc few names are) (λ t. elim t as (λ t. IsUntypedOrSame (cond t (a few) (b few)) (cond t (a names) (b names))) [ true ↦ ha few names are | false ↦ hb few names are ])

-- ---- terms at tuples
module _ (few names : Names) (are : AreFewer few names) where
  value_stays : (m : Meaning) → Steady m → (t : Attrs) → IsUntypedOrSame (value_at few m t) (value_at names m t)
  unfolding value_at
  value_stays m h t = h (within t few) (within t names) (fewer_within t few names are)

  truth_stays : (m : Meaning) → Steady m → (t : Attrs) → IsUntypedOrSame (truth_at m few t) (truth_at m names t)
  unfolding truth_at
  truth_stays m h t = steady_truth m h (within t few) (within t names) (fewer_within t few names are)

  restricted_stays : (m : Meaning) → Steady m → (r : RowsData) → IsUntypedOrSame (restricted (truth_at m few) r) (restricted (truth_at m names) r)
  unfolding restricted
  restricted_stays m h r = stays_then (all_of (truth_at m few) r.tuples) (all_of (truth_at m names) r.tuples) _ _ (stays_all r.tuples (truth_at m few) (truth_at m names) (truth_stays m h)) (λ bs. inr refl)

  term_stays : (s : Summary Meaning) (m : Meaning) (ts : List Attrs) → Steady m → IsUntypedOrSame (and_then (all_of (value_at few m) ts) (fold_of s)) (and_then (all_of (value_at names m) ts) (fold_of s))
  term_stays s m ts h = stays_then (all_of (value_at few m) ts) (all_of (value_at names m) ts) (fold_of s) (fold_of s) (stays_all ts (value_at few m) (value_at names m) (value_stays m h)) (λ ds. inr refl)

steady_where : (r c : Meaning) → Steady r → Steady c → Steady (mean_where r c)
unfolding mean_where
steady_where r c hr hc few names are = stays_then (rows_in r few) (rows_in r names) _ _ (steady_rows r hr few names are) (λ ts. stays_then (restricted (truth_at c few) ts) (restricted (truth_at c names) ts) as_value as_value (restricted_stays few names are c hc ts) (λ us. inr refl))

module _ (relvars : Relvars) (selection : Selection) where
  abbrev means : Typed → Meaning
  means = mean relvars selection

  abbrev HoistedTerm : Type 0
  HoistedTerm = (a : Typed) × Steady (means a)

  abbrev tree : HoistedTerm → Typed
  tree a = a.0

  abbrev meant : HoistedTerm → Meaning
  meant a = means a.0

  abbrev with_term : {E F : Type 0} → (E → F) → Item E → Item F
  with_term f i = record { name = i.name; ty = i.ty; term = f i.term }

  abbrev with_value : {E F : Type 0} → (E → F) → Named E → Named F
  with_value f n = record { name = n.name; value = f n.value }

  abbrev summary_trees : Item (Summary HoistedTerm) → Item (Summary Typed)
  summary_trees = former-Typed-Summarize-2-at-13.map HoistedTerm Typed tree

  abbrev summary_means : Item (Summary Typed) → Item (Summary Meaning)
  summary_means = former-Typed-Summarize-2-at-13.map Typed Meaning means

  -- ---- lists
  list_stays : (all : List HoistedTerm) (few names : Names) → AreFewer few names → IsUntypedOrSame (in_turn (at few) (map means (map tree all))) (in_turn (at names) (map means (map tree all)))
  unfolding at
  list_stays [] few names are = inr refl
  list_stays (a ∷ all) few names are = stays_then (means a.0 few) (means a.0 names) _ _ (a.1 few names are) (λ d. stays_then (in_turn (at few) (map means (map tree all))) (in_turn (at names) (map means (map tree all))) (λ rest. Ok (d ∷ rest)) (λ rest. Ok (d ∷ rest)) (list_stays all few names are) (λ rest. inr refl))

  fields_stay : (all : List (Item HoistedTerm)) (few names : Names) → AreFewer few names → IsUntypedOrSame (in_turn (named_at few) (map (with_term means) (map (with_term tree) all))) (in_turn (named_at names) (map (with_term means) (map (with_term tree) all)))
  unfolding named_at
  fields_stay [] few names are = inr refl
  fields_stay (a ∷ all) few names are =
      stays_then (and_then (means a.term.0 few) (λ d. Ok (a.name, d))) (and_then (means a.term.0 names) (λ d. Ok (a.name, d))) _ _
      (stays_then (means a.term.0 few) (means a.term.0 names) (λ d. Ok (a.name, d)) (λ d. Ok (a.name, d)) (a.term.1 few names are) (λ d. inr refl))
      (λ f. stays_then (in_turn (named_at few) (map (with_term means) (map (with_term tree) all))) (in_turn (named_at names) (map (with_term means) (map (with_term tree) all))) (λ rest. Ok (f ∷ rest)) (λ rest. Ok (f ∷ rest)) (fields_stay all few names are) (λ rest. inr refl))

  steady_select : (n : ℕ) (all : List HoistedTerm) → Steady (mean_select selection n (map means (map tree all)))
  unfolding mean_select
  steady_select n all few names are = stays_then (in_turn (at few) (map means (map tree all))) (in_turn (at names) (map means (map tree all))) (selection n) (selection n) (list_stays all few names are) (λ ds. inr refl)

  steady_relation : (h : Header) (all : List HoistedTerm) → Steady (mean_relation h (map means (map tree all)))
  unfolding mean_relation
  steady_relation h all few names are = stays_then (in_turn (at few) (map means (map tree all))) (in_turn (at names) (map means (map tree all))) _ _ (list_stays all few names are) (λ ds. inr refl)

  steady_tuple : (all : List (Item HoistedTerm)) → Steady (mean_tuple (map (with_term means) (map (with_term tree) all)))
  unfolding mean_tuple
  steady_tuple all few names are = stays_then (in_turn (named_at few) (map (with_term means) (map (with_term tree) all))) (in_turn (named_at names) (map (with_term means) (map (with_term tree) all))) _ _ (fields_stay all few names are) (λ fs. inr refl)

  -- ---- names of WITH
  in_two : {A B C : Type 0} (w : Result A Stop) (f : A → Result B Stop) (g : B → Result C Stop) → and_then (and_then w f) g ≡ and_then w (λ a. and_then (f a) g)
  in_two (Ok a) f g = refl
  in_two (Err e) f g = refl

  with_stays : (all : List (Named HoistedTerm)) (body : HoistedTerm) (few names : Names) → AreFewer few names → IsUntypedOrSame (and_then (introduced (map (with_value means) (map (with_value tree) all)) few) (means body.0)) (and_then (introduced (map (with_value means) (map (with_value tree) all)) names) (means body.0))
  unfolding introduced
  with_stays [] body few names are = body.1 few names are
  with_stays (x ∷ all) body few names are =
      let rest = introduced (map (with_value means) (map (with_value tree) all)) in
      let each = stays_then (means x.value.0 few) (means x.value.0 names) (λ d. and_then (rest (given x.name d few)) (means body.0)) (λ d. and_then (rest (given x.name d names)) (means body.0)) (x.value.1 few names are) (λ d. with_stays all body (given x.name d few) (given x.name d names) (fewer_given x.name d few names are)) in
      subst (λ w. IsUntypedOrSame w (and_then (and_then (means x.value.0 names) (λ d. rest (given x.name d names))) (means body.0))) (sym (in_two (means x.value.0 few) (λ d. rest (given x.name d few)) (means body.0)))
      (subst (λ v. IsUntypedOrSame (and_then (means x.value.0 few) (λ d. and_then (rest (given x.name d few)) (means body.0))) v) (sym (in_two (means x.value.0 names) (λ d. rest (given x.name d names)) (means body.0))) each)

  steady_with : (all : List (Named HoistedTerm)) (body : HoistedTerm) → Steady (mean_with (map (with_value means) (map (with_value tree) all)) (means body.0))
  unfolding mean_with
  steady_with all body few names are = with_stays all body few names are

  -- ---- over tuples
  module _ (few names : Names) (are : AreFewer few names) where
    field_stays : (t : Attrs) (i : Item HoistedTerm) → IsUntypedOrSame (field_at (value_at few) t (with_term means (with_term tree i))) (field_at (value_at names) t (with_term means (with_term tree i)))
    field_stays t i = stays_then (value_at few (meant i.term) t) (value_at names (meant i.term) t) (typed_field i.name i.ty) (typed_field i.name i.ty) (value_stays few names are (meant i.term) i.term.1 t) (λ d. inr refl)

    all_fields : (all : List (Item HoistedTerm)) (t : Attrs) → IsUntypedOrSame (all_of (field_at (value_at few) t) (map (with_term means) (map (with_term tree) all))) (all_of (field_at (value_at names) t) (map (with_term means) (map (with_term tree) all)))
    all_fields [] t = inr refl
    all_fields (i ∷ all) t = stays_beside (field_at (value_at few) t (with_term means (with_term tree i))) (field_at (value_at names) t (with_term means (with_term tree i))) (all_of (field_at (value_at few) t) (map (with_term means) (map (with_term tree) all))) (all_of (field_at (value_at names) t) (map (with_term means) (map (with_term tree) all))) (field_stays t i) (all_fields all t)

    extended_stays : (all : List (Item HoistedTerm)) (r : RowsData) → IsUntypedOrSame (extended (value_at few) (map (with_term means) (map (with_term tree) all)) r) (extended (value_at names) (map (with_term means) (map (with_term tree) all)) r)
    unfolding extended
    extended_stays all r =
        let items = map (with_term means) (map (with_term tree) all) in
        stays_then (all_of (extended_at (value_at few) items) r.tuples) (all_of (extended_at (value_at names) items) r.tuples) _ _
        (stays_all r.tuples (extended_at (value_at few) items) (extended_at (value_at names) items)
        (λ t. stays_then (all_of (field_at (value_at few) t) items) (all_of (field_at (value_at names) t) items) _ _ (all_fields all t) (λ fs. inr refl)))
        (λ us. inr refl)

    summary_stays : (n : List ℕ) (ty : Ty) (s : Summary HoistedTerm) (ts : List Attrs) → IsUntypedOrSame (summary_over (value_at few) ts (summary_means (summary_trees (record { name = n; ty = ty; term = s }))).term) (summary_over (value_at names) ts (summary_means (summary_trees (record { name = n; ty = ty; term = s }))).term)
    summary_stays n ty summary.Count ts = inr refl
    summary_stays n ty (summary.Sum a) ts = term_stays few names are (summary.Sum (meant a)) (meant a) ts a.1
    summary_stays n ty (summary.Max a) ts = term_stays few names are (summary.Max (meant a)) (meant a) ts a.1
    summary_stays n ty (summary.Min a) ts = term_stays few names are (summary.Min (meant a)) (meant a) ts a.1
    summary_stays n ty (summary.And a) ts = term_stays few names are (summary.And (meant a)) (meant a) ts a.1
    summary_stays n ty (summary.Or a) ts = term_stays few names are (summary.Or (meant a)) (meant a) ts a.1

    group_stays : (r : RowsData) (h : Header) (t : Attrs) (i : Item (Summary HoistedTerm)) → IsUntypedOrSame (field_at (over_groups (value_at few) r h) t (summary_means (summary_trees i))) (field_at (over_groups (value_at names) r h) t (summary_means (summary_trees i)))
    group_stays r h t i = stays_then (summary_over (value_at few) (group_of r h t) (summary_means (summary_trees i)).term) (summary_over (value_at names) (group_of r h t) (summary_means (summary_trees i)).term) (typed_field i.name i.ty) (typed_field i.name i.ty) (summary_stays i.name i.ty i.term (group_of r h t)) (λ d. inr refl)

    all_groups : (r : RowsData) (h : Header) (all : List (Item (Summary HoistedTerm))) (t : Attrs) → IsUntypedOrSame (all_of (field_at (over_groups (value_at few) r h) t) (map summary_means (map summary_trees all))) (all_of (field_at (over_groups (value_at names) r h) t) (map summary_means (map summary_trees all)))
    all_groups r h [] t = inr refl
    all_groups r h (i ∷ all) t = stays_beside (field_at (over_groups (value_at few) r h) t (summary_means (summary_trees i))) (field_at (over_groups (value_at names) r h) t (summary_means (summary_trees i))) (all_of (field_at (over_groups (value_at few) r h) t) (map summary_means (map summary_trees all))) (all_of (field_at (over_groups (value_at names) r h) t) (map summary_means (map summary_trees all))) (group_stays r h t i) (all_groups r h all t)

    summarized_stays : (all : List (Item (Summary HoistedTerm))) (r per : RowsData) → IsUntypedOrSame (summarized (value_at few) (map summary_means (map summary_trees all)) r per) (summarized (value_at names) (map summary_means (map summary_trees all)) r per)
    unfolding summarized extended
    summarized_stays all r per =
        let items = map summary_means (map summary_trees all) in
        let f = over_groups (value_at few) r per.heading in
        let g = over_groups (value_at names) r per.heading in
        stays_then (all_of (extended_at f items) per.tuples) (all_of (extended_at g items) per.tuples) _ _
        (stays_all per.tuples (extended_at f items) (extended_at g items)
        (λ t. stays_then (all_of (field_at f t) items) (all_of (field_at g t) items) _ _ (all_groups r per.heading all t) (λ fs. inr refl)))
        (λ us. inr refl)

    per_stays : (a : HoistedTerm) (ts : RowsData) → IsUntypedOrSame (groups_at (groups.Per (means a.0)) few ts) (groups_at (groups.Per (means a.0)) names ts)
    unfolding groups_at
    per_stays a ts = steady_rows (means a.0) a.1 few names are

    whole_stays : (ts : RowsData) → IsUntypedOrSame (groups_at groups.Whole few ts) (groups_at groups.Whole names ts)
    unfolding groups_at
    whole_stays ts = inr refl

    by_stays : (xs : List (List ℕ)) (ts : RowsData) → IsUntypedOrSame (groups_at (groups.By xs) few ts) (groups_at (groups.By xs) names ts)
    unfolding groups_at
    by_stays xs ts = inr refl

  steady_extend : (a : HoistedTerm) (all : List (Item HoistedTerm)) → Steady (mean_extend (means a.0) (map (with_term means) (map (with_term tree) all)))
  unfolding mean_extend
  steady_extend a all few names are = stays_then (rows_in (means a.0) few) (rows_in (means a.0) names) _ _ (steady_rows (means a.0) a.1 few names are) (λ ts. stays_then (extended (value_at few) (map (with_term means) (map (with_term tree) all)) ts) (extended (value_at names) (map (with_term means) (map (with_term tree) all)) ts) as_value as_value (extended_stays few names are all ts) (λ us. inr refl))

  steady_summarize : (a : HoistedTerm) (g : TypedGroups Meaning) (all : List (Item (Summary HoistedTerm))) → ((few names : Names) → AreFewer few names → (ts : RowsData) → IsUntypedOrSame (groups_at g few ts) (groups_at g names ts)) → Steady (mean_summarize (means a.0) g (map summary_means (map summary_trees all)))
  unfolding mean_summarize
  steady_summarize a g all hg few names are = stays_then (rows_in (means a.0) few) (rows_in (means a.0) names) _ _ (steady_rows (means a.0) a.1 few names are)
      (λ ts. stays_then (groups_at g few ts) (groups_at g names ts) _ _ (hg few names are ts)
      (λ us. stays_then (summarized (value_at few) (map summary_means (map summary_trees all)) ts us) (summarized (value_at names) (map summary_means (map summary_trees all)) ts us) as_value as_value (summarized_stays few names are all ts us) (λ vs. inr refl)))

  steady_aggregate : (a : HoistedTerm) (s : Summary Meaning) → ((few names : Names) → AreFewer few names → (ts : List Attrs) → IsUntypedOrSame (summary_over (value_at few) ts s) (summary_over (value_at names) ts s)) → Steady (mean_aggregate (means a.0) s)
  unfolding mean_aggregate
  steady_aggregate a s hs few names are = stays_then (rows_in (means a.0) few) (rows_in (means a.0) names) _ _ (steady_rows (means a.0) a.1 few names are) (λ ts. hs few names are ts.tuples)

  -- ---- all of them
  by_parts : (z : Typed-F Typed) → Steady (mean_step relvars selection (map-Typed Typed Meaning means z)) → Steady (means (roll-Typed z))
  by_parts z h = subst Steady (sym (fold-roll-Typed Meaning (mean_step relvars selection) z)) h

  step : (y : Typed-F HoistedTerm) → Steady (means (roll-Typed (map-Typed HoistedTerm Typed tree y)))
  step (Typed-F.Integer n) = by_parts (Typed-F.Integer n) (λ few names are. inr refl)
  step (Typed-F.Text x) = by_parts (Typed-F.Text x) (λ few names are. inr refl)
  step (Typed-F.Truth b) = by_parts (Typed-F.Truth b) (λ few names are. inr refl)
  step (Typed-F.Local x) = by_parts (Typed-F.Local x) (λ few names are. steady_local x few names are)
  step (Typed-F.Relvar n) = by_parts (Typed-F.Relvar n) (λ few names are. steady_relvar relvars n few names are)
  step (Typed-F.Select n all) = by_parts (Typed-F.Select n (map tree all)) (λ few names are. steady_select n all few names are)
  step (Typed-F.Component c a) = by_parts (Typed-F.Component c a.0) (λ few names are. steady_by _ (means a.0) a.1 few names are)
  step (Typed-F.Tuple all) = by_parts (Typed-F.Tuple (map (with_term tree) all)) (λ few names are. steady_tuple all few names are)
  step (Typed-F.Relation h all) = by_parts (Typed-F.Relation h (map tree all)) (λ few names are. steady_relation h all few names are)
  step (Typed-F.Unary o a) = by_parts (Typed-F.Unary o a.0) (λ few names are. steady_by _ (means a.0) a.1 few names are)
  step (Typed-F.Binary o a b) = by_parts (Typed-F.Binary o a.0 b.0) (λ few names are. steady_binary o (means a.0) (means b.0) a.1 b.1 few names are)
  step (Typed-F.From x a) = by_parts (Typed-F.From x a.0) (λ few names are. steady_by _ (means a.0) a.1 few names are)
  step (Typed-F.Project a xs) = by_parts (Typed-F.Project a.0 xs) (λ few names are. steady_by _ (means a.0) a.1 few names are)
  step (Typed-F.Where a b) = by_parts (Typed-F.Where a.0 b.0) (λ few names are. steady_where (means a.0) (means b.0) a.1 b.1 few names are)
  step (Typed-F.Rename a xs) = by_parts (Typed-F.Rename a.0 xs) (λ few names are. steady_by _ (means a.0) a.1 few names are)
  step (Typed-F.Nest o a xs c) = by_parts (Typed-F.Nest o a.0 xs c) (λ few names are. steady_by _ (means a.0) a.1 few names are)
  step (Typed-F.Unnest o a c) = by_parts (Typed-F.Unnest o a.0 c) (λ few names are. steady_by _ (means a.0) a.1 few names are)
  step (Typed-F.Aggregate a summary.Count) = by_parts (Typed-F.Aggregate a.0 summary.Count) (λ few names are. steady_aggregate a summary.Count (λ f n h ts. inr refl) few names are)
  step (Typed-F.Aggregate a (summary.Sum b)) = by_parts (Typed-F.Aggregate a.0 (summary.Sum b.0)) (λ few names are. steady_aggregate a (summary.Sum (means b.0)) (λ f n h ts. term_stays f n h (summary.Sum (means b.0)) (means b.0) ts b.1) few names are)
  step (Typed-F.Aggregate a (summary.Max b)) = by_parts (Typed-F.Aggregate a.0 (summary.Max b.0)) (λ few names are. steady_aggregate a (summary.Max (means b.0)) (λ f n h ts. term_stays f n h (summary.Max (means b.0)) (means b.0) ts b.1) few names are)
  step (Typed-F.Aggregate a (summary.Min b)) = by_parts (Typed-F.Aggregate a.0 (summary.Min b.0)) (λ few names are. steady_aggregate a (summary.Min (means b.0)) (λ f n h ts. term_stays f n h (summary.Min (means b.0)) (means b.0) ts b.1) few names are)
  step (Typed-F.Aggregate a (summary.And b)) = by_parts (Typed-F.Aggregate a.0 (summary.And b.0)) (λ few names are. steady_aggregate a (summary.And (means b.0)) (λ f n h ts. term_stays f n h (summary.And (means b.0)) (means b.0) ts b.1) few names are)
  step (Typed-F.Aggregate a (summary.Or b)) = by_parts (Typed-F.Aggregate a.0 (summary.Or b.0)) (λ few names are. steady_aggregate a (summary.Or (means b.0)) (λ f n h ts. term_stays f n h (summary.Or (means b.0)) (means b.0) ts b.1) few names are)
  step (Typed-F.If c a b) = by_parts (Typed-F.If c.0 a.0 b.0) (λ few names are. steady_if (means c.0) (means a.0) (means b.0) c.1 a.1 b.1 few names are)
  step (Typed-F.Extend a all) = by_parts (Typed-F.Extend a.0 (map (with_term tree) all)) (λ few names are. steady_extend a all few names are)
  step (Typed-F.Summarize a groups.Whole all) = by_parts (Typed-F.Summarize a.0 groups.Whole (map summary_trees all)) (λ few names are. steady_summarize a groups.Whole all whole_stays few names are)
  step (Typed-F.Summarize a (groups.Per b) all) = by_parts (Typed-F.Summarize a.0 (groups.Per b.0) (map summary_trees all)) (λ few names are. steady_summarize a (groups.Per (means b.0)) all (λ f n h ts. per_stays f n h b ts) few names are)
  step (Typed-F.Summarize a (groups.By xs) all) = by_parts (Typed-F.Summarize a.0 (groups.By xs) (map summary_trees all)) (λ few names are. steady_summarize a (groups.By xs) all (λ f n h ts. by_stays f n h xs ts) few names are)
  step (Typed-F.With all a) = by_parts (Typed-F.With (map (with_value tree) all) a.0) (λ few names are. steady_with all a few names are)

  pub steady : (u : Typed) → Steady (means u)
  steady = ind-Typed (λ u. Steady (means u)) (λ x y is. subst (λ z. Steady (means (roll-Typed z))) is (step y))
