-- The equations of `mean`, form by form.
use Rattle.std.proofs.Common.{◌≡◌, ◌≢◌, ℕ, ℤ, Bool, List, [], ◌∷◌, map, Result, Ok, Err, refl, ap, sym, ◌∙◌}
use Rattle.std.specs.FinMap as by_name
use Rattle.td_values.specs.Data.{Ty, Datum, boolean, integer, char, Attrs}
use Rattle.td_values.specs.Headings.{Header}
use Rattle.td_values.specs.Rows.{RowsData}
use Rattle.td_values.specs.Rows.{RowsData}
use Rattle.td_syntax.specs.declared.tree.BinaryOperator.{BinaryOperator}
use Rattle.td_syntax.specs.declared.tree.BinaryOperator.TheVariants as binary
use Rattle.td_syntax.specs.declared.tree.Named.{Named}
use Rattle.td_syntax.specs.declared.tree.Nesting.{Nesting}
use Rattle.td_syntax.specs.declared.tree.UnaryOperator.{UnaryOperator}
use Rattle.td_tuples.specs.Unions.{beside, joined, tuple_of}
use Rattle.td_tuples.specs.Items.{column_of}
use Rattle.td_tuples.specs.declared.items.Item.{Item}
use Rattle.td_tuples.specs.declared.items.Summary.{Summary}
use Rattle.td_tuples.specs.declared.items.Summary.TheVariants as summary
use Rattle.td_typed_trees.specs.declared.tree.TypedGroups.{TypedGroups}
use Rattle.td_typed_trees.specs.declared.tree.TypedGroups.TheVariants as groups
use Rattle.td_typed_trees.specs.declared.tree.Typed.{Typed}
use Rattle.td_typed_trees.specs.declared.tree.Typed.TheVariants as t
use Rattle.td_typed_trees.specs.declared.tree.Typed.TheOpen.{Typed-F}
use Rattle.td_typed_trees.specs.declared.tree.Typed.TheFolds.{fold-roll-Typed}
use Rattle.td_typed_trees.specs.declared.tree.Typed.TheShapes.{former-Typed-Summarize-2-at-13}
use Rattle.td_algebra.specs.declared.errors.Stop.{Stop}
use Rattle.td_algebra.specs.Extending.{field_at, extended_at}
use Rattle.td_algebra.specs.Functions.{relation_from, extended, summarized}
use Rattle.td_algebra.specs.Raising.{all_of, and_then}
use Rattle.td_algebra.specs.Summaries.{summary_over, over_groups, group_of}
use Rattle.td_algebra.proofs.Walks.{all_mapped}
use Rattle.td_meaning.specs.ForProofs.Over.{Means, terms, list_meant, items_meant, all_meant, over_aggregate, over_extend, over_summarize, summarized_over}
use Rattle.td_meaning.specs.Mean.{Meaning, Relvars, Selection, mean, mean_step, mean_local, mean_relvar, mean_by, mean_both, mean_binary, mean_if, mean_select, mean_relation, mean_tuple, mean_with, mean_where, mean_aggregate, mean_extend, mean_summarize, groups_at, rows_in, value_at}
use Rattle.td_operators.specs.Operators.{operate_on, component_at, attribute_at, part_at, with_new_names, nested, unnested, as_value}

-- the infix operators but AND and OR evaluate both operands
pub others : (o : BinaryOperator) (a b : Meaning) → o ≢ binary.And → o ≢ binary.Or → mean_binary o a b ≡ mean_both o a b
others binary.And a b p q = absurd (p refl)
others binary.Or a b p q = absurd (q refl)
others o a b p q = refl

-- ---- items with other terms

abbrev with_term : {E F : Type 0} → (E → F) → Item E → Item F
with_term f i = record { name = i.name; ty = i.ty; term = f i.term }

module _ {E F : Type 0} (f : E → F) where
  same_columns : (items : List (Item E)) → map column_of (map (with_term f) items) ≡ map column_of items
  same_columns [] = refl
  same_columns (i ∷ is) = ap (λ cs. column_of i ∷ cs) (same_columns is)

  module _ (m : F → Attrs → Result Datum Stop) where
    at_mapped : (items : List (Item E)) (u : Attrs) → extended_at m (map (with_term f) items) u ≡ extended_at (λ e. m (f e)) items u
    at_mapped items u = ap (λ w. and_then w (λ fs. Ok (beside (tuple_of fs) u))) (all_mapped (field_at m u) (with_term f) items)

    pub extended_mapped : (items : List (Item E)) (r : RowsData) → extended m (map (with_term f) items) r ≡ extended (λ e. m (f e)) items r
    unfolding extended
    extended_mapped items r = λ i. and_then (all_of (λ u. at_mapped items u i) r.tuples) (λ us. Ok (relation_from (joined (by_name.from_entries (same_columns items i)) r.heading) us))

-- ---- summaries with other terms

abbrev summary_with : {E F : Type 0} → (E → F) → Summary E → Summary F
summary_with f summary.Count = summary.Count
summary_with f (summary.Sum e) = summary.Sum (f e)
summary_with f (summary.Max e) = summary.Max (f e)
summary_with f (summary.Min e) = summary.Min (f e)
summary_with f (summary.And e) = summary.And (f e)
summary_with f (summary.Or e) = summary.Or (f e)

module _ {E F : Type 0} (f : E → F) (m : F → Attrs → Result Datum Stop) where
  same_summary : (ts : List Attrs) (s : Summary E) → summary_over m ts (summary_with f s) ≡ summary_over (λ e. m (f e)) ts s
  same_summary ts summary.Count = refl
  same_summary ts (summary.Sum e) = refl
  same_summary ts (summary.Max e) = refl
  same_summary ts (summary.Min e) = refl
  same_summary ts (summary.And e) = refl
  same_summary ts (summary.Or e) = refl

  pub summarized_mapped : (items : List (Item (Summary E))) (r per : RowsData) → summarized m (map (with_term (summary_with f)) items) r per ≡ summarized (λ e. m (f e)) items r per
  unfolding summarized
  summarized_mapped items r per =
      extended_mapped (summary_with f) (over_groups m r per.heading) items per
      ∙ (λ i. extended (λ s u. same_summary (group_of r per.heading u) s i) items per)

module _ (relvars : Relvars) (selection : Selection) where
  abbrev means : Means
  means = mean relvars selection

  abbrev step : Typed-F Meaning → Meaning
  step = mean_step relvars selection

  abbrev mapped : Item (Summary Typed) → Item (Summary Meaning)
  mapped = former-Typed-Summarize-2-at-13.map Typed Meaning means

  one_mapped : (n : List ℕ) (ty : Ty) (s : Summary Typed) → mapped (record { name = n; ty = ty; term = s }) ≡ record { name = n; ty = ty; term = summary_with means s }
  one_mapped n ty summary.Count = refl
  one_mapped n ty (summary.Sum e) = refl
  one_mapped n ty (summary.Max e) = refl
  one_mapped n ty (summary.Min e) = refl
  one_mapped n ty (summary.And e) = refl
  one_mapped n ty (summary.Or e) = refl

  each_mapped : (items : List (Item (Summary Typed))) → map mapped items ≡ map (with_term (summary_with means)) items
  each_mapped [] = refl
  each_mapped (x ∷ xs) = λ i. one_mapped x.name x.ty x.term i ∷ each_mapped xs i

  pub of_integer : (n : ℤ) → means (t.Integer n) ≡ (λ names. Ok (integer n))
  of_integer n = ap means (sym (t.rolls-Integer n)) ∙ fold-roll-Typed Meaning step (Typed-F.Integer n)

  pub of_text : (s : List ℕ) → means (t.Text s) ≡ (λ names. Ok (char s))
  of_text s = ap means (sym (t.rolls-Text s)) ∙ fold-roll-Typed Meaning step (Typed-F.Text s)

  pub of_truth : (b : Bool) → means (t.Truth b) ≡ (λ names. Ok (boolean b))
  of_truth b = ap means (sym (t.rolls-Truth b)) ∙ fold-roll-Typed Meaning step (Typed-F.Truth b)

  pub of_local : (x : List ℕ) → means (t.Local x) ≡ mean_local x
  of_local x = ap means (sym (t.rolls-Local x)) ∙ fold-roll-Typed Meaning step (Typed-F.Local x)

  pub of_relvar : (n : ℕ) → means (t.Relvar n) ≡ mean_relvar relvars n
  of_relvar n = ap means (sym (t.rolls-Relvar n)) ∙ fold-roll-Typed Meaning step (Typed-F.Relvar n)

  pub of_select : (n : ℕ) (all : List Typed) → means (t.Select n all) ≡ mean_select selection n (list_meant means all)
  of_select n all = ap means (sym (t.rolls-Select n all)) ∙ fold-roll-Typed Meaning step (Typed-F.Select n all)

  pub of_component : (n : ℕ) (a : Typed) → means (t.Component n a) ≡ mean_by (component_at n) (means a)
  of_component n a = ap means (sym (t.rolls-Component n a)) ∙ fold-roll-Typed Meaning step (Typed-F.Component n a)

  pub of_tuple : (items : List (Item Typed)) → means (t.Tuple items) ≡ mean_tuple (items_meant means items)
  of_tuple items = ap means (sym (t.rolls-Tuple items)) ∙ fold-roll-Typed Meaning step (Typed-F.Tuple items)

  pub of_relation : (h : Header) (all : List Typed) → means (t.Relation h all) ≡ mean_relation h (list_meant means all)
  of_relation h all = ap means (sym (t.rolls-Relation h all)) ∙ fold-roll-Typed Meaning step (Typed-F.Relation h all)

  pub of_unary : (o : UnaryOperator) (a : Typed) → means (t.Unary o a) ≡ mean_by (operate_on o) (means a)
  of_unary o a = ap means (sym (t.rolls-Unary o a)) ∙ fold-roll-Typed Meaning step (Typed-F.Unary o a)

  pub of_binary : (o : BinaryOperator) (a b : Typed) → means (t.Binary o a b) ≡ mean_binary o (means a) (means b)
  of_binary o a b = ap means (sym (t.rolls-Binary o a b)) ∙ fold-roll-Typed Meaning step (Typed-F.Binary o a b)

  pub of_from : (x : List ℕ) (a : Typed) → means (t.From x a) ≡ mean_by (attribute_at x) (means a)
  of_from x a = ap means (sym (t.rolls-From x a)) ∙ fold-roll-Typed Meaning step (Typed-F.From x a)

  pub of_project : (a : Typed) (xs : List (List ℕ)) → means (t.Project a xs) ≡ mean_by (part_at xs) (means a)
  of_project a xs = ap means (sym (t.rolls-Project a xs)) ∙ fold-roll-Typed Meaning step (Typed-F.Project a xs)

  pub of_where : (r c : Typed) → means (t.Where r c) ≡ mean_where (means r) (means c)
  of_where r c = ap means (sym (t.rolls-Where r c)) ∙ fold-roll-Typed Meaning step (Typed-F.Where r c)

  pub of_rename : (a : Typed) (items : List (List ℕ × List ℕ)) → means (t.Rename a items) ≡ mean_by (with_new_names items) (means a)
  of_rename a items = ap means (sym (t.rolls-Rename a items)) ∙ fold-roll-Typed Meaning step (Typed-F.Rename a items)

  pub of_nest : (o : Nesting) (a : Typed) (xs : List (List ℕ)) (c : List ℕ) → means (t.Nest o a xs c) ≡ mean_by (nested o xs c) (means a)
  of_nest o a xs c = ap means (sym (t.rolls-Nest o a xs c)) ∙ fold-roll-Typed Meaning step (Typed-F.Nest o a xs c)

  pub of_unnest : (o : Nesting) (a : Typed) (c : List ℕ) → means (t.Unnest o a c) ≡ mean_by (unnested o c) (means a)
  of_unnest o a c = ap means (sym (t.rolls-Unnest o a c)) ∙ fold-roll-Typed Meaning step (Typed-F.Unnest o a c)

  pub of_if : (c a b : Typed) → means (t.If c a b) ≡ mean_if (means c) (means a) (means b)
  of_if c a b = ap means (sym (t.rolls-If c a b)) ∙ fold-roll-Typed Meaning step (Typed-F.If c a b)

  pub of_with : (xs : List (Named Typed)) (a : Typed) → means (t.With xs a) ≡ mean_with (all_meant means xs) (means a)
  of_with xs a = ap means (sym (t.rolls-With xs a)) ∙ fold-roll-Typed Meaning step (Typed-F.With xs a)

  pub of_extend : (r : Typed) (items : List (Item Typed)) → means (t.Extend r items) ≡ over_extend means r items
  unfolding mean_extend over_extend terms value_at
  of_extend r items = ap means (sym (t.rolls-Extend r items)) ∙ fold-roll-Typed Meaning step (Typed-F.Extend r items)
      ∙ (λ i names. and_then (rows_in (means r) names) (λ ts. and_then (extended_mapped means (value_at names) items ts i) as_value))

  -- ---- an aggregate, by its summary

  over_meant : (r : Typed) (s : Summary Typed) → mean_aggregate (means r) (summary_with means s) ≡ over_aggregate means r s
  unfolding mean_aggregate over_aggregate terms value_at
  over_meant r s = λ i names. and_then (rows_in (means r) names) (λ ts. same_summary means (value_at names) ts.tuples s i)

  pub of_aggregate : (r : Typed) (s : Summary Typed) → means (t.Aggregate r s) ≡ over_aggregate means r s
  of_aggregate r summary.Count = ap means (sym (t.rolls-Aggregate r summary.Count)) ∙ (fold-roll-Typed Meaning step (Typed-F.Aggregate r summary.Count) ∙ over_meant r summary.Count)
  of_aggregate r (summary.Sum e) = ap means (sym (t.rolls-Aggregate r (summary.Sum e))) ∙ (fold-roll-Typed Meaning step (Typed-F.Aggregate r (summary.Sum e)) ∙ over_meant r (summary.Sum e))
  of_aggregate r (summary.Max e) = ap means (sym (t.rolls-Aggregate r (summary.Max e))) ∙ (fold-roll-Typed Meaning step (Typed-F.Aggregate r (summary.Max e)) ∙ over_meant r (summary.Max e))
  of_aggregate r (summary.Min e) = ap means (sym (t.rolls-Aggregate r (summary.Min e))) ∙ (fold-roll-Typed Meaning step (Typed-F.Aggregate r (summary.Min e)) ∙ over_meant r (summary.Min e))
  of_aggregate r (summary.And e) = ap means (sym (t.rolls-Aggregate r (summary.And e))) ∙ (fold-roll-Typed Meaning step (Typed-F.Aggregate r (summary.And e)) ∙ over_meant r (summary.And e))
  of_aggregate r (summary.Or e) = ap means (sym (t.rolls-Aggregate r (summary.Or e))) ∙ (fold-roll-Typed Meaning step (Typed-F.Aggregate r (summary.Or e)) ∙ over_meant r (summary.Or e))

  -- ---- summaries over groups

  in_two : (w : Result RowsData Stop) (f : RowsData → Result RowsData Stop) → and_then w (λ us. and_then (f us) as_value) ≡ and_then (and_then w f) as_value
  in_two (Ok us) f = refl
  in_two (Err e) f = refl

  all_over : (r : Typed) (g : TypedGroups Meaning) (items : List (Item (Summary Typed))) → mean_summarize (means r) g (map mapped items) ≡ (λ names. and_then (rows_in (means r) names) (λ ts. and_then (and_then (groups_at g names ts) (summarized (terms means names) items ts)) as_value))
  unfolding mean_summarize terms value_at
  all_over r g items = ap (mean_summarize (means r) g) (each_mapped items)
      ∙ (λ i names. and_then (rows_in (means r) names) (λ ts. and_then (groups_at g names ts) (λ us. and_then (summarized_mapped means (value_at names) items ts us i) as_value)))
      ∙ (λ i names. and_then (rows_in (means r) names) (λ ts. in_two (groups_at g names ts) (summarized (terms means names) items ts) i))

  pub of_summarize : (r : Typed) (g : TypedGroups Typed) (items : List (Item (Summary Typed))) → means (t.Summarize r g items) ≡ over_summarize means r g items
  unfolding over_summarize summarized_over
  of_summarize r groups.Whole items = ap means (sym (t.rolls-Summarize r groups.Whole items)) ∙ (fold-roll-Typed Meaning step (Typed-F.Summarize r groups.Whole items) ∙ all_over r groups.Whole items)
  of_summarize r (groups.Per a) items = ap means (sym (t.rolls-Summarize r (groups.Per a) items)) ∙ (fold-roll-Typed Meaning step (Typed-F.Summarize r (groups.Per a) items) ∙ all_over r (groups.Per (means a)) items)
  of_summarize r (groups.By xs) items = ap means (sym (t.rolls-Summarize r (groups.By xs) items)) ∙ (fold-roll-Typed Meaning step (Typed-F.Summarize r (groups.By xs) items) ∙ all_over r (groups.By xs) items)
