-- Lists of operands, and what selectors, tuples and relations are made of them.
use Rattle.std.proofs.Common.{◌≡◌, ℕ, List, [], ◌∷◌, map, Some, slice_get, Ok, Err, Bool, true, false, if◌then◌else◌, refl, sym, ap, ◌∙◌, subst, inl, inr}
use Rattle.std.specs.List.{AllZip}
use Rattle.td_values.specs.Data.{Datum, tuple, items_of, Attrs}
use Rattle.td_values.specs.Headings.{Header, header_fields}
use Rattle.td_values.specs.View.{ty_of}
use Rattle.td_values.specs.Whole.{type_of, heading_of}
use Rattle.td_values.specs.declared.TypeKind.{TypeKind}
use Rattle.td_values.specs.declared.TypeKind.TheVariants as kind
use Rattle.td_tuples.specs.Items.{columns_of}
use Rattle.td_tuples.specs.Unions.{tuple_of}
use Rattle.td_tuples.specs.declared.items.Item.{Item}
use Rattle.td_typed_trees.specs.declared.tree.Typed.{Typed}
use Rattle.td_algebra.specs.declared.errors.Stop.TheVariants.{Untyped}
use Rattle.td_algebra.specs.Functions.{relation_from}
use Rattle.td_algebra.specs.Raising.{and_then}
use Rattle.td_schema.specs.declared.schema.Representation.{Representation}
use Rattle.td_schema.specs.Schemas.{SchemaData}
use Rattle.td_meaning.specs.ForProofs.Over.{Means, item_meant, items_meant}
use Rattle.td_meaning.specs.Mean.{Names, Meaning, Selection, at, named_at, mean_select, mean_relation, mean_tuple}
use Rattle.td_operators.specs.Operators.{in_turn, fits, if_fits, tuple_over, relation_over, as_value}
use Rattle.td_operators.specs.Values.{tuple_in}
use Rattle.td_operators.proofs.KindLemmas.{items_back}
use Rattle.td_typing.specs.Trees.{component_kinds}
use Rattle.td_type_soundness.specs.Values.{AreValues}
use Rattle.td_type_soundness.specs.Meanings.{OrError, GivesValue, HasKind, IsTupleOver, Selects}
use Rattle.td_type_soundness.proofs.Errors.{Each, goes_on, turn_is}
use Rattle.td_type_soundness.proofs.OneOperand.{as_relation}
use Rattle.td_type_soundness.proofs.OverTuples.{TermsGive, IsOf, IsField, AreFields, more_fields, tuple_of_fields}
use Rattle.td_type_soundness.proofs.Relations.{of_list}
use Rattle.td_type_soundness.proofs.Tables.{fields_itself}
use Rattle.td_type_soundness.proofs.Values.{tuple_given, tuple_has}

module _ (s : SchemaData) where
  -- ---- operands in turn
  abbrev pub HaveKinds : List TypeKind → List Datum → Type 0
  HaveKinds ks ds = AllZip (HasKind s) ks ds

  pub next_given : (k : TypeKind) (ks : List TypeKind) (names : Names) (m : Meaning) (ms : List Meaning) → GivesValue s k (m names) → OrError (HaveKinds ks) (in_turn (at names) ms) → OrError (HaveKinds (k ∷ ks)) (in_turn (at names) (m ∷ ms))
  unfolding at
  next_given k ks names m ms give rest =
      goes_on (HasKind s k) (HaveKinds (k ∷ ks)) (λ d. and_then (in_turn (at names) ms) (λ ds. Ok (d ∷ ds))) (m names) give (λ d has.
      goes_on (HaveKinds ks) (HaveKinds (k ∷ ks)) (λ ds. Ok (d ∷ ds)) (in_turn (at names) ms) rest (λ ds have. (has, have)))

  -- ---- selectors
  have_types : (ks : List TypeKind) (ds : List Datum) → HaveKinds ks ds → map type_of ds ≡ map ty_of ks
  have_types [] [] have = refl
  have_types [] (d ∷ ds) have = absurd have
  have_types (k ∷ ks) [] have = absurd have
  have_types (k ∷ ks) (d ∷ ds) have = λ i. have.0.0 i ∷ have_types ks ds have.1 i

  are_values : (ks : List TypeKind) (ds : List Datum) → HaveKinds ks ds → AreValues s (items_of ds)
  are_values [] [] have = tt
  are_values [] (d ∷ ds) have = absurd have
  are_values (k ∷ ks) [] have = absurd have
  are_values (k ∷ ks) (d ∷ ds) have = (have.0.1, are_values ks ds have.1)

  pub select_gives : (selection : Selection) (n : ℕ) (r : Representation) (ks : List TypeKind) (names : Names) (ms : List Meaning) → Selects s selection → slice_get s.possreps n ≡ Some r → ks ≡ component_kinds r → OrError (HaveKinds ks) (in_turn (at names) ms) → GivesValue s (kind.User r.possrep.ty) (mean_select selection n ms names)
  unfolding mean_select
  select_gives selection n r ks names ms selects there e give =
      goes_on (HaveKinds ks) (HasKind s (kind.User r.possrep.ty)) (selection n) (in_turn (at names) ms) give (λ ds have.
      selects n r ds there (ap (map type_of) (items_back ds) ∙ have_types ks ds have ∙ ap (map ty_of) e) (are_values ks ds have))

  -- ---- relations
  -- each has the kind
  abbrev pub AllOf : TypeKind → List TypeKind → Type 0
  AllOf k ks = Each (λ j. j ≡ k) ks

  each_has : (k : TypeKind) (ks : List TypeKind) (ds : List Datum) → AllOf k ks → HaveKinds ks ds → Each (HasKind s k) ds
  each_has k [] [] all have d m = absurd m
  each_has k [] (e ∷ ds) all have d m = absurd have
  each_has k (j ∷ ks) [] all have d m = absurd have
  each_has k (j ∷ ks) (e ∷ ds) all have d (inl same) = subst (λ l. HasKind s l d) (all j (inl refl)) (subst (HasKind s j) (sym same) have.0)
  each_has k (j ∷ ks) (e ∷ ds) all have d (inr m) = each_has k ks ds (λ l i. all l (inr i)) have.1 d m

  if_it_fits : (b : Bool) (h : Header) (t : Attrs) → b ≡ true → IsTupleOver s h t → OrError (IsTupleOver s h) (if b then Ok t else Err Untyped)
  if_it_fits true h t e has = has
  if_it_fits false h t e has = absurd (cc)

  tuple_gives : (h : Header) (d : Datum) → HasKind s (kind.Tuple h) d → OrError (IsTupleOver s h) (tuple_over h d)
  tuple_gives h d has = goes_on (IsTupleOver s h) (IsTupleOver s h) (if_fits h) (tuple_in d) (tuple_given s h d has) (λ t is.
      if_it_fits (fits h t) h t (fields_itself (heading_of t) (header_fields h) is.0) is)

  rows_give : (h : Header) (ds : List Datum) → Each (HasKind s (kind.Tuple h)) ds → GivesValue s (kind.Relation h) (relation_over h ds)
  rows_give h ds each = goes_on (Each (IsTupleOver s h)) (HasKind s (kind.Relation h)) (λ ts. as_value (relation_from h ts)) (in_turn (tuple_over h) ds)
      (turn_is (IsTupleOver s h) (tuple_over h) ds (λ d m. tuple_gives h d (each d m)))
      (λ ts are. as_relation s h (relation_from h ts) (of_list s h h ts refl are))

  pub relation_gives : (h : Header) (ks : List TypeKind) (names : Names) (ms : List Meaning) → AllOf (kind.Tuple h) ks → OrError (HaveKinds ks) (in_turn (at names) ms) → GivesValue s (kind.Relation h) (mean_relation h ms names)
  unfolding mean_relation
  relation_gives h ks names ms all give =
      goes_on (HaveKinds ks) (HasKind s (kind.Relation h)) (relation_over h) (in_turn (at names) ms) give (λ ds have. rows_give h ds (each_has (kind.Tuple h) ks ds all have))

  -- ---- tuples
  fields_in_turn : (m : Means) (names : Names) (is : List (Item Typed)) → TermsGive s (λ u. m u names) is → OrError (AreFields s is) (in_turn (named_at names) (items_meant m is))
  unfolding named_at
  fields_in_turn m names [] give = (refl, λ x i. absurd i)
  fields_in_turn m names (i ∷ is) give =
      goes_on (IsField s i) (AreFields s (i ∷ is)) (λ f. and_then (in_turn (named_at names) (items_meant m is)) (λ fs. Ok (f ∷ fs))) (named_at names (item_meant m i))
      (goes_on (IsOf s i.ty) (IsField s i) (λ d. Ok (i.name, d)) (m i.term names) give.0 (λ d has. ((λ j. (i.name, has.0 j)), has.1)))
      (λ f one.
      goes_on (AreFields s is) (AreFields s (i ∷ is)) (λ fs. Ok (f ∷ fs)) (in_turn (named_at names) (items_meant m is)) (fields_in_turn m names is give.1) (λ fs are. more_fields s i is f fs one are))

  pub tuple_of_terms : (m : Means) (names : Names) (is : List (Item Typed)) → TermsGive s (λ u. m u names) is → GivesValue s (kind.Tuple (columns_of is)) (mean_tuple (items_meant m is) names)
  unfolding mean_tuple
  tuple_of_terms m names is give =
      goes_on (AreFields s is) (HasKind s (kind.Tuple (columns_of is))) (λ fs. Ok (tuple (tuple_of fs))) (in_turn (named_at names) (items_meant m is)) (fields_in_turn m names is give)
      (λ fs are. tuple_has s (columns_of is) (tuple_of fs) (tuple_of_fields s is fs are))
