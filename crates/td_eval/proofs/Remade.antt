-- What an expression means that takes tuples out of a relvar, or puts changed ones in their place.
use Rattle.std.proofs.Common.{◌≡◌, ℕ, Bool, true, not, List, ◌++◌, Some, Result, Ok, Err, slice_get, refl, ap, sym, ◌∙◌, subst}
use Rattle.std.specs.List.{Contains}
use Rattle.td_values.specs.Data.{Datum, no_attrs, boolean}
use Rattle.td_values.specs.Rows.{RowsData}
use Rattle.td_values.specs.declared.raises.Raise.{Raise}
use Rattle.td_relations.specs.Deltas.{DeltaData}
use Rattle.td_syntax.specs.declared.tree.BinaryOperator.TheVariants as binary
use Rattle.td_syntax.specs.declared.tree.UnaryOperator.TheVariants as unary
use Rattle.td_typed_trees.specs.declared.expression.Expression.{Expression}
use Rattle.td_typed_trees.specs.declared.tree.Typed.{Typed}
use Rattle.td_typed_trees.specs.declared.tree.Typed.TheVariants as t
use Rattle.td_typed_trees.specs.Mentions.{mentioned, relvars_in}
use Rattle.td_typed_trees.proofs.Forms as mentions
use Rattle.td_tuples.specs.declared.items.Item.{Item}
use Rattle.td_algebra.specs.Functions.{extended, minus_of, restricted, union_of}
use Rattle.td_algebra.specs.Nested.{relation_value}
use Rattle.td_algebra.specs.Raising.{and_then}
use Rattle.td_algebra.specs.declared.errors.Fault.TheVariants.{Raised}
use Rattle.td_algebra.specs.declared.errors.Stop.{Stop}
use Rattle.std.specs.declared.convert.Infallible.{Infallible}
use Rattle.td_operators.specs.Operators.{as_value, if_alike, operate, operate_on}
use Rattle.td_operators.specs.Values.{rows_of, truth_of}
use Rattle.td_operators.proofs.KindLemmas.{rows_back}
use Rattle.td_headings.specs.Catalogues.{CatalogueData}
use Rattle.td_headings.specs.Definitions.{Defined}
use Rattle.td_headings.specs.Expressions.{IsTree, IsTyped, no_tuple}
use Rattle.td_headings.specs.Reached.{is_base, named_relvars}
use Rattle.td_meaning.specs.ForProofs.Over.{over_extend, terms}
use Rattle.td_meaning.specs.Mean.{Meaning, Relvars, Selection, mean, mean_both, mean_by, mean_relvar, mean_where, rows_in, truth_at, truth_in, within}
use Rattle.td_meaning.specs.Seen.{relvars_at}
use Rattle.td_meaning.specs.Selections.{selection}
use Rattle.td_meaning.proofs.Forms as meant
use Rattle.td_type_soundness.specs.Meanings.{GivesValue, IsError}
use Rattle.td_semantics.specs.Meanings.{no_names}
use Rattle.td_semantics.specs.Raises.{stop_of}
use Rattle.td_semantics.specs.Trees.{AreBases, IsIn, tree_means}
use Rattle.td_eval.specs.Changed.{TellsChanged}
use Rattle.td_eval.specs.ForProofs.Environments.{all_known}
use Rattle.td_eval.specs.ForProofs.Forms.{TellsForm, changed_tree, chosen, form_means, form_tree, renewed, rest_tree}
use Rattle.td_eval.specs.declared.forms.Form.{Form}
use Rattle.td_eval.specs.declared.forms.Form.TheVariants.{Less, Changed}
use Rattle.td_eval.proofs.AllThere.{means_its_tree}
use Rattle.td_eval.proofs.HasValues.{trees_have_values}
use Rattle.td_eval.proofs.Known.{as_known, known_relvar, those, tree_names}
use Rattle.td_eval.proofs.Rest.{negated, negated_restricts}
use Rattle.td_eval.proofs.Told.{none_fits}
use Rattle.td_eval.proofs.United.{United, first, united, within_none}
use Rattle.td_eval.proofs.Virtuals.{stored_stay}

-- ---- values of relations
as_rows : (m : Result RowsData Stop) → and_then (and_then m as_value) rows_of ≡ m
as_rows (Ok r) = rows_back (relation_value r) r refl
as_rows (Err e) = refl

not_true : (v : Result Datum Stop) → and_then (and_then v (operate_on unary.Not)) truth_of ≡ negated (and_then v truth_of)
not_true (Ok d) = by (truth_of d)
  where
    by : (b : Result Bool Stop) → and_then (and_then b (λ b. Ok (boolean (not b)))) truth_of ≡ negated b
    by (Ok b) = refl
    by (Err e) = refl
not_true (Err e) = refl

-- ---- the forms
module _ (relvars : Relvars) (select : Selection) (n : ℕ) (q : RowsData) (has : relvars n ≡ Ok q) where
  abbrev m : Typed → Meaning
  m = mean relvars select

  its_rows : rows_in (m (t.Relvar n)) no_names ≡ Ok q
  unfolding mean_relvar rows_in
  its_rows =
      ap (λ (f : Meaning). and_then (f no_names) rows_of) (meant.of_relvar relvars select n)
      ∙ ap (λ o. and_then (and_then o as_value) rows_of) has
      ∙ as_rows (Ok q)

  not_at : (c : Typed) → truth_at (m (t.Unary unary.Not c)) no_names ≡ (λ u. negated (truth_at (m c) no_names u))
  unfolding mean_by truth_at truth_in
  not_at c = λ i u. (ap (λ (f : Meaning). and_then (f (within u no_names)) truth_of) (meant.of_unary relvars select unary.Not c) ∙ not_true (m c (within u no_names))) i

  selects : (c : Typed) → m (t.Where (t.Relvar n) c) no_names ≡ and_then (restricted (truth_at (m c) no_names) q) as_value
  unfolding mean_where
  selects c =
      ap (λ (f : Meaning). f no_names) (meant.of_where relvars select (t.Relvar n) c)
      ∙ ap (λ o. and_then o (λ ts. and_then (restricted (truth_at (m c) no_names) ts) as_value)) its_rows

  pub rest_means : (c : Typed) → m (rest_tree n c) no_names ≡ and_then (and_then (chosen m c q) (λ g. Ok (minus_of q g))) as_value
  rest_means c = selects (t.Unary unary.Not c) ∙ ap (λ f. and_then (restricted f q) as_value) (not_at c) ∙ ap (λ o. and_then o as_value) (negated_restricts (truth_at (m c) no_names) q)

  changed_means : (c : Typed) (xs : List (Item Typed)) → m (changed_tree n c xs) no_names ≡ and_then (chosen m c q) (λ g. and_then (renewed m xs g) as_value)
  unfolding over_extend rows_in
  changed_means c xs =
      ap (λ (f : Meaning). f no_names) (meant.of_extend relvars select (t.Where (t.Relvar n) c) xs)
      ∙ ap (λ o. and_then (and_then o rows_of) (λ ts. and_then (extended (terms m no_names) xs ts) as_value)) (selects c)
      ∙ ap (λ o. and_then o (λ ts. and_then (extended (terms m no_names) xs ts) as_value)) (as_rows (chosen m c q))

  -- the union of both
  together : (c : Typed) (xs : List (Item Typed)) (g : Result RowsData Stop)
      → and_then (and_then (and_then g (λ r. Ok (minus_of q r))) as_value) (λ d. and_then (and_then g (λ r. and_then (renewed m xs r) as_value)) (operate binary.Union d))
      ≡ and_then (and_then g (λ r. and_then (renewed m xs r) (λ s. if_alike q s (union_of (minus_of q r) s)))) as_value
  unfolding minus_of
  together c xs (Ok r) =
      united (minus_of q r) (and_then (renewed m xs r) as_value)
      ∙ ap (λ o. and_then (United (minus_of q r) o) as_value) (as_rows (renewed m xs r))
  together c xs (Err e) = refl

  updated_means : (c : Typed) (xs : List (Item Typed)) → m (t.Binary binary.Union (rest_tree n c) (changed_tree n c xs)) no_names
      ≡ and_then (and_then (chosen m c q) (λ g. and_then (renewed m xs g) (λ s. if_alike q s (union_of (minus_of q g) s)))) as_value
  unfolding mean_both
  updated_means c xs =
      ap (λ (f : Meaning). f no_names) (meant.of_binary relvars select binary.Union (rest_tree n c) (changed_tree n c xs))
      ∙ ap (λ o. and_then o (λ d. and_then (m (changed_tree n c xs) no_names) (operate binary.Union d))) (rest_means c)
      ∙ ap (λ o. and_then (and_then (and_then (chosen m c q) (λ g. Ok (minus_of q g))) as_value) (λ d. and_then o (operate binary.Union d))) (changed_means c xs)
      ∙ together c xs (chosen m c q)

  pub form_is : (f : Form) → m (form_tree n f) no_names ≡ and_then (form_means m q f) as_value
  form_is (Less c) = rest_means c.now
  form_is (Changed x) = updated_means x.condition.now x.items.now

-- ---- an expression of such a form
names_first : (n : ℕ) (f : Form) → Contains (named_relvars (form_tree n f)) n
names_first n (Less c) =
    subst (λ ms. Contains (relvars_in ms) n) (sym (mentions.of_where (t.Relvar n) (t.Unary unary.Not c.now) ∙ ap (λ ms. ms ++ mentioned (t.Unary unary.Not c.now)) (mentions.of_relvar n)))
    (first n (relvars_in (mentioned (t.Unary unary.Not c.now))))
names_first n (Changed x) =
    let c = x.condition.now in
    let b = changed_tree n c x.items.now in
    subst (λ ms. Contains (relvars_in ms) n)
    (sym (mentions.of_binary binary.Union (rest_tree n c) b ∙ ap (λ ms. ms ++ mentioned b) (mentions.of_where (t.Relvar n) (t.Unary unary.Not c) ∙ ap (λ ms. ms ++ mentioned (t.Unary unary.Not c)) (mentions.of_relvar n))))
    (first n (relvars_in (mentioned (t.Unary unary.Not c) ++ mentioned b)))

module _ (c : CatalogueData) (x : Expression) (r : Relvars) (n : ℕ) (f : Form) (q : RowsData) (defined : Defined c) (typed : IsTyped x) (is : IsIn c x) (are : AreBases c r) (base : is_base (slice_get c.origins n) ≡ true) (has : r n ≡ Ok q) (form : x.tree ≡ form_tree n f) where
  abbrev known : Relvars
  known = relvars_at (all_known x r)

  abbrev means : Typed → Meaning
  means = mean known (selection x.selectors)

  abbrev Meant : Result Datum Stop
  Meant = tree_means c r x.tree no_attrs

  tree : IsTree c x.attributes x.tree x.kind
  tree = subst (λ h. IsTree c h x.tree x.kind) (sym is.attributes) is.tree

  reached : Contains is.under.relvars n
  reached = tree_names c defined x tree is.under n (subst (λ u. Contains (named_relvars u) n) (sym form) (names_first n f))

  has_known : known n ≡ Ok q
  has_known =
      known_relvar c defined x tree is.under r n reached
      ∙ stored_stay x r n typed (((those c defined x tree is.under).members n).1 ((is.under.reached.members n).0 reached, base))
      ∙ has

  whole : Meant ≡ and_then (form_means means q f) as_value
  whole =
      sym (means_its_tree c x r no_attrs defined tree is.under)
      ∙ ap (λ (w : Meaning). w (within no_attrs no_names)) (sym (as_known x typed r))
      ∙ ap (λ u. means u (within no_attrs no_names)) form
      ∙ ap (means (form_tree n f)) within_none
      ∙ form_is known (selection x.selectors) n q has_known f

  rows : and_then Meant rows_of ≡ form_means means q f
  rows = ap (λ w. and_then w rows_of) whole ∙ as_rows (form_means means q f)

  gives : GivesValue c.schema x.kind Meant
  gives = trees_have_values c no_tuple x.tree x.kind r no_attrs defined is.tree are (none_fits, tt)

  pub raised : (e : Stop) → TellsForm {W = Infallible} q (form_means means q f) (Err (Raised e)) → IsError e
  raised e raises = subst (GivesValue c.schema x.kind) (whole ∙ ap (λ w. and_then w as_value) raises) gives

  pub told_error : (e : Raise) (s : Stop) → TellsForm {W = Infallible} q (form_means means q f) (Err (Raised s)) → stop_of e ≡ s → and_then Meant rows_of ≡ Err (stop_of e)
  told_error e s raises same = rows ∙ raises ∙ ap Err (sym same)

  pub told_change : (d : DeltaData) → TellsForm {W = Infallible} q (form_means means q f) (Ok d) → TellsChanged (r n) (and_then Meant rows_of) (Ok (Some d))
  told_change d told = (q, has, rows ∙ told.0, told.1)
