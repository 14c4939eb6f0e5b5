-- What a relvar united with more means.
use Rattle.std.proofs.Common.{◌≡◌, ℕ, Bool, true, false, List, ◌∷◌, ◌++◌, if◌then◌else◌, None, Some, Result, Ok, Err, slice_get, refl, ap, sym, ◌∙◌, subst, arith}
use Rattle.std.specs.List.{Contains}
use Rattle.td_values.specs.Data.{Datum, no_attrs}
use Rattle.td_values.specs.Rows.{RowsData}
use Rattle.td_values.specs.declared.raises.Raise.{Raise}
use Rattle.td_relations.proofs.SameHeadings.{one_heading}
use Rattle.td_syntax.specs.declared.tree.BinaryOperator.TheVariants as binary
use Rattle.td_typed_trees.specs.declared.expression.Expression.{Expression}
use Rattle.td_typed_trees.specs.declared.tree.Typed.{Typed}
use Rattle.td_typed_trees.specs.declared.tree.Typed.TheVariants as t
use Rattle.td_typed_trees.specs.Mentions.{mentioned, relvars_in}
use Rattle.td_typed_trees.proofs.Forms as mentions
use Rattle.td_algebra.specs.Functions.{union_of}
use Rattle.td_algebra.specs.Nested.{relation_value}
use Rattle.td_algebra.specs.Raising.{and_then}
use Rattle.td_algebra.specs.declared.errors.Stop.{Stop}
use Rattle.td_algebra.specs.declared.errors.Stop.TheVariants.{Untyped}
use Rattle.td_operators.specs.Operators.{as_value, if_alike, of_relations, operate, are_equal_headings}
use Rattle.td_operators.specs.Values.{both, rows_of}
use Rattle.td_operators.proofs.KindLemmas.{rows_back}
use Rattle.td_headings.specs.Catalogues.{CatalogueData}
use Rattle.td_headings.specs.Definitions.{Defined}
use Rattle.td_headings.specs.Expressions.{IsTree, IsTyped, no_tuple}
use Rattle.td_headings.specs.Reached.{is_base, named_relvars}
use Rattle.td_meaning.specs.Mean.{Meaning, Relvars, Selection, mean, mean_both, mean_relvar, rows_in, within}
use Rattle.td_meaning.specs.Seen.{relvars_at}
use Rattle.td_meaning.specs.Selections.{selection}
use Rattle.td_meaning.proofs.Forms as meant
use Rattle.td_type_soundness.specs.Meanings.{GivesValue, IsError}
use Rattle.td_semantics.specs.Meanings.{means, no_names}
use Rattle.td_semantics.specs.Raises.{stop_of}
use Rattle.td_semantics.specs.Trees.{AreBases, IsIn, tree_means}
use Rattle.td_eval.specs.Added.{TellsAdded}
use Rattle.td_eval.specs.ForProofs.Environments.{all_known}
use Rattle.td_eval.proofs.AllThere.{means_its_tree}
use Rattle.td_eval.proofs.HasValues.{trees_have_values}
use Rattle.td_eval.proofs.Known.{as_known, known_relvar, those, tree_names}
use Rattle.td_eval.proofs.Told.{none_fits}
use Rattle.td_eval.proofs.Virtuals.{stored_stay}

-- ---- a relation united with what an operand has
module _ (q : RowsData) where
  -- the union, where the headings agree
  abbrev pub United : Result RowsData Stop → Result RowsData Stop
  United m = and_then m (λ s. if_alike q s (union_of q s))

  united_with : (d : Datum) → operate binary.Union (relation_value q) d ≡ and_then (and_then (rows_of d) (λ s. if_alike q s (union_of q s))) as_value
  unfolding of_relations
  united_with d = ap (λ r. by r (rows_of d)) (rows_back (relation_value q) q refl) ∙ same (rows_of d)
    where
      by : Result RowsData Stop → Result RowsData Stop → Result Datum Stop
      by r s = and_then (both r s) (λ p. and_then (if_alike p.0 p.1 (union_of p.0 p.1)) as_value)

      same : (s : Result RowsData Stop) → by (Ok q) s ≡ and_then (and_then s (λ b. if_alike q b (union_of q b))) as_value
      same (Ok b) = refl
      same (Err e) = refl

  pub united : (m : Result Datum Stop) → and_then m (operate binary.Union (relation_value q)) ≡ and_then (United (and_then m rows_of)) as_value
  united (Ok d) = united_with d
  united (Err e) = refl

-- ---- an expression that is a relvar united with more
pub within_none : within no_attrs no_names ≡ no_names
within_none = λ i x. None

module _ (relvars : Relvars) (selected : Selection) (n : ℕ) (b : Typed) (q : RowsData) (has : relvars n ≡ Ok q) where
  pub union_means : mean relvars selected (t.Binary binary.Union (t.Relvar n) b) (within no_attrs no_names) ≡ and_then (United q (rows_in (mean relvars selected b) no_names)) as_value
  unfolding mean_both mean_relvar rows_in
  union_means =
      ap (λ (m : Meaning). m (within no_attrs no_names)) (meant.of_binary relvars selected binary.Union (t.Relvar n) b)
      ∙ ap (λ (m : Meaning). and_then (m (within no_attrs no_names)) (λ d. and_then (mean relvars selected b (within no_attrs no_names)) (operate binary.Union d))) (meant.of_relvar relvars selected n)
      ∙ ap (λ o. and_then (and_then o as_value) (λ d. and_then (mean relvars selected b (within no_attrs no_names)) (operate binary.Union d))) has
      ∙ ap (λ names. and_then (mean relvars selected b names) (operate binary.Union (relation_value q))) within_none
      ∙ united q (mean relvars selected b no_names)

pub first : {A : Type 0} (x : A) (xs : List A) → Contains (x ∷ xs) x
first x xs = (0, omega arith, refl)

module _ (c : CatalogueData) (x : Expression) (r : Relvars) (n : ℕ) (b : Typed) (q : RowsData) (defined : Defined c) (typed : IsTyped x) (is : IsIn c x) (are : AreBases c r) (base : is_base (slice_get c.origins n) ≡ true) (has : r n ≡ Ok q) (form : x.tree ≡ t.Binary binary.Union (t.Relvar n) b) where
  abbrev known : Relvars
  known = relvars_at (all_known x r)

  abbrev selected : Selection
  selected = selection x.selectors

  abbrev Meant : Result Datum Stop
  Meant = tree_means c r x.tree no_attrs

  tree : IsTree c x.attributes x.tree x.kind
  tree = subst (λ h. IsTree c h x.tree x.kind) (sym is.attributes) is.tree

  named : Contains (named_relvars x.tree) n
  named =
      subst (λ ms. Contains (relvars_in ms) n) (sym (ap mentioned form ∙ mentions.of_binary binary.Union (t.Relvar n) b ∙ ap (λ ms. ms ++ mentioned b) (mentions.of_relvar n)))
      (first n (relvars_in (mentioned b)))

  reached : Contains is.under.relvars n
  reached = tree_names c defined x tree is.under n named

  has_known : known n ≡ Ok q
  has_known =
      known_relvar c defined x tree is.under r n reached
      ∙ stored_stay x r n typed (((those c defined x tree is.under).members n).1 ((is.under.reached.members n).0 reached, base))
      ∙ has

  whole : Meant ≡ and_then (United q (rows_in (mean known selected b) no_names)) as_value
  whole =
      sym (means_its_tree c x r no_attrs defined tree is.under)
      ∙ ap (λ (m : Meaning). m (within no_attrs no_names)) (sym (as_known x typed r))
      ∙ ap (λ u. mean known selected u (within no_attrs no_names)) form
      ∙ union_means known selected n b q has_known

  gives : GivesValue c.schema x.kind Meant
  gives = trees_have_values c no_tuple x.tree x.kind r no_attrs defined is.tree are (none_fits, tt)

  pub raised : (e : Stop) → rows_in (mean known selected b) no_names ≡ Err e → IsError e
  raised e raises = subst (GivesValue c.schema x.kind) (whole ∙ ap (λ m. and_then (United q m) as_value) raises) gives

  pub told_error : (e : Raise) (s : Stop) → rows_in (mean known selected b) no_names ≡ Err s → stop_of e ≡ s → and_then Meant rows_of ≡ Err (stop_of e)
  told_error e s raises same = ap (λ m. and_then m rows_of) (whole ∙ ap (λ m. and_then (United q m) as_value) raises) ∙ ap Err (sym same)

  pub told_more : (s : RowsData) → rows_in (mean known selected b) no_names ≡ Ok s → TellsAdded (r n) (and_then Meant rows_of) (Ok (Some s))
  told_more s means = by (are_equal_headings q.heading s.heading) refl
    where
      told : (a : Bool) → are_equal_headings q.heading s.heading ≡ a → Meant ≡ and_then (if a then Ok (union_of q s) else Err Untyped) as_value
      told a e = whole ∙ ap (λ m. and_then (United q m) as_value) means ∙ ap (λ c. and_then (if c then Ok (union_of q s) else Err Untyped) as_value) e

      by : (a : Bool) → are_equal_headings q.heading s.heading ≡ a → TellsAdded (r n) (and_then Meant rows_of) (Ok (Some s))
      by true e = (
        q,
        has,
        ap (λ m. and_then m rows_of) (told true e) ∙ rows_back (relation_value (union_of q s)) (union_of q s) refl,
        sym ((one_heading q.heading s.heading true (sym e)).0 refl),
      )
      by false e = absurd (subst (GivesValue c.schema x.kind) (told false e) gives refl)
