-- Terms that are made ready have the values of the expressions at the tuples of a heading.
use Rattle.std.proofs.Common.{◌≡◌, ◌≤◌, ◌<◌, ◌++◌, ℕ, zero, suc, max, List, [], ◌∷◌, map, length, get_or, Result, Ok, refl, sym, ap, ◌∙◌, arith}
use Rattle.std.specs.FinMap as by_name
use Rattle.std.specs.List.{All, list_all, list_any}
use Rattle.std.specs.Ordering.{eq_by_cmp}
use Rattle.std.proofs.lemmas.List.Elements.{All-filter}
use Rattle.td_values.specs.Data.{Datum, Attrs, boolean}
use Rattle.td_values.specs.Headings.{Header}
use Rattle.td_values.specs.Order.{attrs_order, text_cmp}
use Rattle.td_values.specs.Rows.{RowsData}
use Rattle.td_tuples.specs.declared.items.Item.{Item}
use Rattle.td_tuples.specs.declared.items.Summary.{Summary}
use Rattle.td_tuples.specs.declared.items.Summary.TheVariants as summary
use Rattle.td_tuples.specs.Items.{column_of}
use Rattle.td_tuples.specs.Parts.{Fits, cut, names_of}
use Rattle.td_tuples.specs.Unions.{beside, joined, tuple_of}
use Rattle.td_syntax.specs.declared.tree.BinaryOperator.{BinaryOperator}
use Rattle.td_typed_trees.specs.declared.tree.Typed.{Typed}
use Rattle.td_typed_trees.specs.declared.tree.Typed.TheVariants as t
use Rattle.td_algebra.specs.declared.errors.Stop.{Stop}
use Rattle.td_algebra.specs.Extending.{TermMeaning, typed_field, fields_at, extended_at}
use Rattle.td_algebra.specs.Functions.{extended, relation_from, summarized}
use Rattle.td_algebra.specs.Raising.{all_of, alone, and_all, and_then}
use Rattle.td_algebra.specs.Summaries.{OfTerm, greater, group_of, is_true, lesser_of, most, over_groups, sum_of, summary_over}
use Rattle.td_algebra.proofs.Walks.{all_same}
use Rattle.td_operators.specs.Operators.{operate}
use Rattle.td_meaning.specs.declared.environment.Environment.{Environment}
use Rattle.td_meaning.specs.declared.ready.ReadyTerm.{ReadyTerm}
use Rattle.td_meaning.specs.ForProofs.Over.{Means, terms}
use Rattle.td_meaning.specs.ForProofs.ReadyTerms.{AreReady, IsReady, IsReadySummary, deepest_item, deepest_summary, ready_levels, ready_value, summary_depth}
use Rattle.td_meaning.specs.Mean.{Meaning, Names, mean_binary, mean_both, within}
use Rattle.td_meaning.specs.Seen.{mean_in, relvars_there}
use Rattle.td_meaning.specs.Selections.{selection}
use Rattle.td_meaning.proofs.Forms.{of_binary}

-- ---- items with other terms
module _ {E F : Type 0} (R : E → F → Type 0) where
  -- one more of both
  pub ready_more : (is : List (Item E)) (js : List (Item F)) (i : Item E) (j : Item F) → AreReady R is js → j.name ≡ i.name → j.ty ≡ i.ty → R i.term j.term → AreReady R (is ++ i ∷ []) (js ++ j ∷ [])
  ready_more [] [] i j are name ty term = (name, ty, term, tt)
  ready_more [] (l ∷ js) i j are name ty term = absurd are
  ready_more (k ∷ is) [] i j are name ty term = absurd are
  ready_more (k ∷ is) (l ∷ js) i j are name ty term = (are.0, are.1, are.2, ready_more is js i j are.3 name ty term)

  columns_same : (is : List (Item E)) (js : List (Item F)) → AreReady R is js → map column_of js ≡ map column_of is
  columns_same [] [] are = refl
  columns_same [] (j ∷ js) are = absurd are
  columns_same (i ∷ is) [] are = absurd are
  columns_same (i ∷ is) (j ∷ js) are = λ k. (are.0 k, are.1 k) ∷ columns_same is js are.3 k

  module _ (m : TermMeaning E) (n : TermMeaning F) where
    fields_same : (u : Attrs) → ((e : E) (f : F) → R e f → n f u ≡ m e u) → (is : List (Item E)) (js : List (Item F)) → AreReady R is js → fields_at n js u ≡ fields_at m is u
    fields_same u same [] [] are = refl
    fields_same u same [] (j ∷ js) are = absurd are
    fields_same u same (i ∷ is) [] are = absurd are
    fields_same u same (i ∷ is) (j ∷ js) are = λ k. and_all (alone (and_then (same i.term j.term are.2 k) (typed_field (are.0 k) (are.1 k)))) (fields_same u same is js are.3 k)

    -- items whose terms have the same values extend a relation alike
    extends_same : (r : RowsData) → All (λ u. (e : E) (f : F) → R e f → n f u ≡ m e u) r.tuples → (is : List (Item E)) (js : List (Item F)) → AreReady R is js → extended n js r ≡ extended m is r
    unfolding extended
    extends_same r same is js are =
        let at : All (λ u. extended_at n js u ≡ extended_at m is u) r.tuples = λ i d lt. ap (λ fs. and_then fs (λ gs. Ok (beside (tuple_of gs) (get_or r.tuples i d)))) (fields_same (get_or r.tuples i d) (same i d lt) is js are) in
        λ k. and_then (all_same (extended_at n js) (extended_at m is) r.tuples at k) (λ us. Ok (relation_from (joined (by_name.from_entries {R = text_cmp} (columns_same is js are k)) r.heading) us))

module _ (m : Means) (names : Names) where
  pub ready_extends : (r : RowsData) → All (Fits r.heading) r.tuples → (is : List (Item Typed)) (js : List (Item ReadyTerm)) → AreReady (IsReady m names r.heading) is js → extended (ready_value m names) js r ≡ extended (terms m names) is r
  unfolding terms
  ready_extends r fit is js are = extends_same (IsReady m names r.heading) (terms m names) (ready_value m names) r (λ k d lt e f same. same (get_or r.tuples k d) (fit k d lt)) is js are

  -- ---- summaries
  module _ (h : Header) where
    values_same : (a : Typed) (r : ReadyTerm) (ts : List Attrs) → All (Fits h) ts → IsReady m names h a r → all_of (ready_value m names r) ts ≡ all_of (terms m names a) ts
    unfolding terms
    values_same a r ts fit same = all_same (ready_value m names r) (terms m names a) ts (λ k d lt. same (get_or ts k d) (fit k d lt))

    pub summary_same : (ts : List Attrs) → All (Fits h) ts → (s : Summary Typed) (r : Summary ReadyTerm) → IsReadySummary m names h s r → summary_over (ready_value m names) ts r ≡ summary_over (terms m names) ts s
    summary_same ts fit summary.Count summary.Count same = refl
    summary_same ts fit (summary.Sum a) (summary.Sum r) same = ap (λ x. and_then x (λ ds. sum_of ds)) (values_same a r ts fit same)
    summary_same ts fit (summary.Max a) (summary.Max r) same = ap (λ x. and_then x (λ ds. most greater ds)) (values_same a r ts fit same)
    summary_same ts fit (summary.Min a) (summary.Min r) same = ap (λ x. and_then x (λ ds. most lesser_of ds)) (values_same a r ts fit same)
    summary_same ts fit (summary.And a) (summary.And r) same = ap (λ x. and_then x (λ ds. Ok (boolean (list_all is_true ds)))) (values_same a r ts fit same)
    summary_same ts fit (summary.Or a) (summary.Or r) same = ap (λ x. and_then x (λ ds. Ok (boolean (list_any is_true ds)))) (values_same a r ts fit same)
    summary_same ts fit s r same = absurd same

  pub ready_summarizes : (r : RowsData) → All (Fits r.heading) r.tuples → (is : List (Item (Summary Typed))) (js : List (Item (Summary ReadyTerm))) → AreReady (IsReadySummary m names r.heading) is js → (s : RowsData) → summarized (ready_value m names) js r s ≡ summarized (terms m names) is r s
  unfolding summarized
  ready_summarizes r fit is js are s = extends_same (IsReadySummary m names r.heading) (over_groups (terms m names) r s.heading) (over_groups (ready_value m names) r s.heading) s
      (λ k d lt e f same. summary_same r.heading (group_of r s.heading (get_or s.tuples k d)) (All-filter (λ u. eq_by_cmp attrs_order (cut (names_of s.heading) u) (get_or s.tuples k d)) (Fits r.heading) r.tuples fit) e f same) is js are

-- ---- an operator
pub operates : (env : Environment) (names : Names) (h : Header) (e a b : Typed) (o : BinaryOperator) (r : ReadyTerm) (v w : Attrs → Result Datum Stop) → e ≡ t.Binary o a b → ((x y : Meaning) → mean_binary o x y ≡ mean_both o x y)
    → ((u : Attrs) → ready_value (mean_in env) names r u ≡ and_then (v u) (λ d. and_then (w u) (operate o d)))
    → ((u : Attrs) → Fits h u → mean_in env a (within u names) ≡ v u) → ((u : Attrs) → Fits h u → mean_in env b (within u names) ≡ w u) → IsReady (mean_in env) names h e r
unfolding mean_both
operates env names h e a b o r v w is both gives first second = λ u f.
    let here = within u names in
    gives u
    ∙ (λ i. and_then (sym (first u f) i) (λ d. and_then (sym (second u f) i) (operate o d)))
    ∙ sym (ap (λ x. mean_in env x here) is ∙ ap (λ x. x here) (of_binary (relvars_there env) (selection env.selectors.now) o a b ∙ both (mean_in env a) (mean_in env b)))

-- ---- how deep they are
pub deeper_item : (xs : List (Item ReadyTerm)) (x : Item ReadyTerm) → deepest_item (xs ++ x ∷ []) ≤ max (deepest_item xs) (ready_levels x.term)
deeper_item [] x = omega arith
deeper_item (y ∷ xs) x = omega (arith, deeper_item xs x)

pub deeper_summary : (xs : List (Item (Summary ReadyTerm))) (x : Item (Summary ReadyTerm)) → deepest_summary (xs ++ x ∷ []) ≤ max (deepest_summary xs) (summary_depth x.term)
deeper_summary [] x = omega arith
deeper_summary (y ∷ xs) x = omega (arith, deeper_summary xs x)

item_depth : (xs : List (Item ReadyTerm)) (k : ℕ) (d : Item ReadyTerm) → k < length xs → ready_levels (get_or xs k d).term ≤ deepest_item xs
item_depth [] k d lt = omega (arith, lt)
item_depth (x ∷ xs) zero d lt = omega arith
item_depth (x ∷ xs) (suc k) d lt = omega (arith, item_depth xs k d (omega (arith, lt)))

summary_item_depth : (xs : List (Item (Summary ReadyTerm))) (k : ℕ) (d : Item (Summary ReadyTerm)) → k < length xs → summary_depth (get_or xs k d).term ≤ deepest_summary xs
summary_item_depth [] k d lt = omega (arith, lt)
summary_item_depth (x ∷ xs) zero d lt = omega arith
summary_item_depth (x ∷ xs) (suc k) d lt = omega (arith, summary_item_depth xs k d (omega (arith, lt)))

pub ready_within : (xs : List (Item ReadyTerm)) (k : ℕ) (d : Item ReadyTerm) (a : ReadyTerm) → k < length xs → a ≡ (get_or xs k d).term → ready_levels a ≤ deepest_item xs
ready_within xs k d a lt is = omega (arith, ap ready_levels is, item_depth xs k d lt)

pub ready_summary_within : (xs : List (Item (Summary ReadyTerm))) (k : ℕ) (d : Item (Summary ReadyTerm)) (b a : ReadyTerm) → k < length xs → ready_levels b ≤ summary_depth (get_or xs k d).term → a ≡ b → ready_levels a ≤ deepest_summary xs
ready_summary_within xs k d b a lt le is = omega (arith, ap ready_levels is, le, summary_item_depth xs k d lt)

-- what holds of each term that is no deeper than the summary holds of its term
pub of_ready : (P : ReadyTerm → Type 0) (s : Summary ReadyTerm) → ((e : ReadyTerm) → ready_levels e ≤ summary_depth s → P e) → OfTerm P s
of_ready P summary.Count h = tt
of_ready P (summary.Sum e) h = h e (omega arith)
of_ready P (summary.Max e) h = h e (omega arith)
of_ready P (summary.Min e) h = h e (omega arith)
of_ready P (summary.And e) h = h e (omega arith)
of_ready P (summary.Or e) h = h e (omega arith)
