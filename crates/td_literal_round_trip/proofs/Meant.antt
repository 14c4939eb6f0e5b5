-- Literals are typed, and mean their values.
use Rattle.std.proofs.Common.{◌≡◌, ℕ, ℤ, pos, negsuc, Bool, true, false, if◌then◌else◌, List, [], ◌∷◌, map, Ok, Err, suc, refl, sym, ap, ◌∙◌, subst}
use Rattle.std.specs.FinMap as by_name
use Rattle.std.specs.List.{list_all}
use Rattle.std.specs.List.Sorted.{IsStrictlySortedBy}
use Rattle.std.specs.Ordering.{int_eq}
use Rattle.std.proofs.lemmas.Bool.Decides.{Decides-int_eq}
use Rattle.td_values.specs.Data.{Fields, PossrepData, Datum, boolean, integer, char, user, tuple, relation, Items, no_items, item, Attrs, no_attrs, attr, attrs_of, Tuples, no_tuples, next_tuple, tuples_of}
use Rattle.td_values.specs.Headings.{Header, header_fields, header_of}
use Rattle.td_values.specs.Order.{attrs_order}
use Rattle.td_values.specs.Proving.Total.{attrs_order_total}
use Rattle.td_values.specs.View.{ty_of}
use Rattle.td_values.specs.Whole.{type_of, heading_of, AreRowsOf}
use Rattle.td_values.specs.Whole.{IsWhole, AreWhole, IsWholeTuple}
use Rattle.td_values.specs.declared.TypeKind.{TypeKind}
use Rattle.td_values.specs.declared.TypeKind.TheVariants as kind
use Rattle.td_values.proofs.TupleLemmas.{header_back}
use Rattle.td_relations.specs.Sets.{tuple_set}
use Rattle.td_relations.proofs.Members.{tuples_are}
use Rattle.td_relations.proofs.Sorted.{below_cons}
use Rattle.td_tuples.specs.Items.{column_of, columns_of}
use Rattle.td_tuples.specs.Parts.{attributes}
use Rattle.td_tuples.specs.Unions.{tuple_of}
use Rattle.td_tuples.specs.declared.items.Item.{Item}
use Rattle.td_tuples.proofs.ByName.{attrs_attributes, fits_sorted, fits_typed}
use Rattle.td_tuples.proofs.Lists.{entries-from_entries, from_entries-entries, keys_of, on_values}
use Rattle.td_syntax.specs.declared.tree.BinaryOperator.TheVariants as binary
use Rattle.td_syntax.specs.declared.tree.Named.{Named}
use Rattle.td_syntax.specs.declared.tree.UnaryOperator.TheVariants as unary
use Rattle.td_syntax.specs.declared.tree.Expr.{Expr}
use Rattle.td_syntax.specs.declared.tree.Expr.TheVariants as e
use Rattle.td_typed_trees.specs.declared.tree.Typed.{Typed}
use Rattle.td_typed_trees.specs.declared.tree.Typed.TheVariants as t
use Rattle.td_typed_trees.specs.declared.tree.Typing.{Typing}
use Rattle.td_values.specs.declared.raises.Raise.TheVariants.{Overflow}
use Rattle.td_algebra.specs.declared.errors.Stop.TheVariants.{Error, Untyped}
use Rattle.td_algebra.specs.Functions.{relation_from}
use Rattle.td_algebra.specs.Nested.{tuple_list}
use Rattle.td_algebra.specs.Raising.{and_then}
use Rattle.td_algebra.specs.Summaries.{in_64_bits}
use Rattle.td_schema.specs.declared.schema.Representation.{Representation}
use Rattle.td_schema.specs.Kinds.{Name, kind_of, same_kind}
use Rattle.td_schema.specs.Lists.{are_distinct}
use Rattle.td_schema.specs.Operators.{number_kind}
use Rattle.td_schema.specs.Schemas.{SchemaData}
use Rattle.td_schema.specs.Scopes.{Scope}
use Rattle.td_schema.specs.Written.{names}
use Rattle.td_schema.proofs.KindLemmas.{kind_back}
use Rattle.td_meaning.specs.ForProofs.Over.{list_meant, items_meant}
use Rattle.td_meaning.specs.Mean.{Names, Meaning, Relvars, Selection, mean, at, named_at, mean_by, mean_both, mean_select, mean_tuple, mean_relation}
use Rattle.td_operators.specs.Operators.{in_turn, fits, tuple_over, relation_over, operate, operate_on, of_integers, as_value}
use Rattle.td_operators.specs.Values.{item_list}
use Rattle.td_meaning.proofs.Forms as forms
use Rattle.td_typing.specs.Trees.{kinds, trees, typing, item_of, component_kinds}
use Rattle.td_typing.specs.Types as types
use Rattle.td_typing.specs.Types.{Types, TypesEach, TypesItems}
use Rattle.td_typing.proofs.KindLemmas.{some_same, same_itself, tuples_all}
use Rattle.td_type_soundness.specs.Values.{AreColumns, AreComponentsOf, HasPossrep, IsValue, AreValues, AreAttributes, AreTuples}
use Rattle.td_type_soundness.proofs.Tables.{fields_itself}
use Rattle.td_type_soundness.proofs.Values.{canonical}
use Rattle.td_literal_round_trip.specs.Literals.{AreDefined, HasSelector, IsWritten, AreWritten, AreWrittenAttributes, AreWrittenTuples}
use Rattle.td_literal_round_trip.proofs.Headings.{fields_back, heading_back, sorted_distinct}
use Rattle.td_literal_round_trip.proofs.Trees.{least_tree, signed_tree, tree, item_trees, attr_trees, tuple_trees}

abbrev pub value_kind : Datum → TypeKind
value_kind d = kind_of (type_of d)

-- ---- lists
value_kinds : (ds : List Datum) → map value_kind ds ≡ map kind_of (map type_of ds)
value_kinds [] = refl
value_kinds (d ∷ ds) = ap (λ ks. value_kind d ∷ ks) (value_kinds ds)

kinds_back : (ks : List TypeKind) → map kind_of (map ty_of ks) ≡ ks
kinds_back [] = refl
kinds_back (k ∷ ks) = λ i. kind_back k i ∷ kinds_back ks i

tuples_listed : (ts : Tuples) → tuples_of (tuple_list ts) ≡ ts
tuples_listed no_tuples = refl
tuples_listed (next_tuple w ts) = ap (next_tuple w) (tuples_listed ts)

names_listed : (w : Attrs) → names (attr_trees w) ≡ keys_of (on_values type_of (attributes w))
names_listed no_attrs = refl
names_listed (attr n d w) = ap (λ ns. n ∷ ns) (names_listed w)

-- the tuples of a whole relation ascend
ascends : (fs : Fields) (ts : Tuples) → AreRowsOf fs ts → IsStrictlySortedBy attrs_order (tuple_list ts)
unfolding IsStrictlySortedBy
ascends fs no_tuples rows = tt
ascends fs (next_tuple w no_tuples) rows = (tt, tt)
ascends fs (next_tuple w (next_tuple u us)) rows =
    let rest = ascends fs (next_tuple u us) rows.3 in
    (below_cons attrs_order_total w u (tuple_list us) rows.2 rest.0, rest)

module _ (s : SchemaData) (relvars : Relvars) (selection : Selection) (scope : Scope) (env : Names) where
  abbrev m : Typed → Meaning
  m = mean relvars selection

  -- the tree has the value's type, and means the value
  abbrev pub IsBack : Datum → Expr → Type 0
  IsBack d a = (u : Typed) × Types s scope a u (value_kind d) × (m u env ≡ Ok d)

  by_form : (u : Typed) (f : Meaning) (d : Datum) → m u ≡ f → f env ≡ Ok d → m u env ≡ Ok d
  by_form u f d e r = ap (λ (g : Meaning). g env) e ∙ r

  -- ---- integers
  number : (n : ℤ) → m (t.Integer n) env ≡ Ok (integer n)
  number n = by_form (t.Integer n) (λ w. Ok (integer n)) (integer n) (forms.of_integer relvars selection n) refl

  negated : (n : ℕ) → in_64_bits (negsuc n) ≡ true → m (t.Unary unary.Negate (t.Integer (pos (suc n)))) env ≡ Ok (integer (negsuc n))
  unfolding mean_by
  negated n small =
      by_form (t.Unary unary.Negate (t.Integer (pos (suc n)))) (mean_by (operate_on unary.Negate) (m (t.Integer (pos (suc n))))) (integer (negsuc n)) (forms.of_unary relvars selection unary.Negate (t.Integer (pos (suc n))))
      ((λ i. and_then (number (pos (suc n)) i) (operate_on unary.Negate)) ∙ ap (λ b. if b then Ok (integer (negsuc n)) else Err (Error Overflow)) small)

  least : m (t.Binary binary.Subtract (t.Unary unary.Negate (t.Integer (pos 9223372036854775807))) (t.Integer (pos 1))) env ≡ Ok (integer (negsuc 9223372036854775807))
  unfolding mean_both of_integers
  least =
      let u = t.Unary unary.Negate (t.Integer (pos 9223372036854775807)) in
      by_form (t.Binary binary.Subtract u (t.Integer (pos 1))) (mean_both binary.Subtract (m u) (m (t.Integer (pos 1)))) (integer (negsuc 9223372036854775807)) (forms.of_binary relvars selection binary.Subtract u (t.Integer (pos 1)))
      (λ i. and_then (negated 9223372036854775806 refl i) (λ d. and_then (number (pos 1) i) (operate binary.Subtract d)))

  least_back : IsBack (integer (negsuc 9223372036854775807)) least_tree
  unfolding number_kind
  least_back = (t.Binary binary.Subtract (t.Unary unary.Negate (t.Integer (pos 9223372036854775807))) (t.Integer (pos 1)), types.binary (types.unary types.integer refl) types.integer refl, least)

  signed_back : (n : ℤ) → in_64_bits n ≡ true → IsBack (integer n) (signed_tree n)
  signed_back (pos n) small = (t.Integer (pos n), types.integer, number (pos n))
  signed_back (negsuc n) small = (t.Unary unary.Negate (t.Integer (pos (suc n))), types.unary types.integer refl, negated n small)

  integer_by : (b : Bool) (n : ℤ) → int_eq n (negsuc 9223372036854775807) ≡ b → in_64_bits n ≡ true → IsBack (integer n) (if b then least_tree else signed_tree n)
  integer_by true n is small = subst (λ k. IsBack (integer k) least_tree) (sym ((Decides-int_eq n (negsuc 9223372036854775807)).0 is)) least_back
  integer_by false n is small = signed_back n small

  -- ---- lists of values
  abbrev AreBack : List Datum → List Expr → Type 0
  AreBack ds xs = (ys : List Typing) × TypesEach s scope xs ys × (kinds ys ≡ map value_kind ds) × (in_turn (at env) (list_meant m (trees ys)) ≡ Ok ds)

  none_back : AreBack [] []
  none_back = ([], types.none, refl, refl)

  next_back : (d : Datum) (a : Expr) (ds : List Datum) (xs : List Expr) → IsBack d a → AreBack ds xs → AreBack (d ∷ ds) (a ∷ xs)
  unfolding at
  next_back d a ds xs one rest = (
    typing one.0 (value_kind d) ∷ rest.0,
    types.next one.1 rest.1,
    ap (λ ks. value_kind d ∷ ks) rest.2,
    λ i. and_then (one.2 i) (λ c. and_then (rest.3 i) (λ cs. Ok (c ∷ cs))),
  )

  -- ---- user values
  same_possrep : (p : PossrepData) (is : Items) (has : HasPossrep s p is) (own : HasSelector s selection p is) → has.1 ≡ own.possrep
  same_possrep p is has own = ap (λ (x : ℕ × Representation). x.1) (some_same {A = ℕ × Representation} (has.0, has.1) (own.place, own.possrep) (sym has.2 ∙ own.by_type))

  user_back : (p : PossrepData) (is : Items) → HasPossrep s p is → HasSelector s selection p is → AreBack (item_list is) (item_trees is) → IsBack (user p is) (tree (user p is))
  unfolding mean_select
  user_back p is has own rest =
      let same = same_possrep p is has own in
      let possrep : own.possrep.possrep ≡ p = ap (λ (r : Representation). r.possrep) (sym same) ∙ has.3 in
      let components : AreComponentsOf own.possrep is = subst (λ r. AreComponentsOf r is) same has.4 in
      let fit : kinds rest.0 ≡ component_kinds own.possrep = rest.2 ∙ value_kinds (item_list is) ∙ ap (map kind_of) components ∙ kinds_back (component_kinds own.possrep) in (
        t.Select own.place (trees rest.0),
        subst (λ (q : PossrepData). Types s scope (tree (user p is)) (t.Select own.place (trees rest.0)) (kind.User q.ty)) possrep (types.selector own.selects own.by_name rest.1 fit),
        by_form (t.Select own.place (trees rest.0)) (mean_select selection own.place (list_meant m (trees rest.0))) (user p is) (forms.of_select relvars selection own.place (trees rest.0))
            (ap (λ r. and_then r (selection own.place)) rest.3 ∙ own.passes),
      )

  -- ---- tuples
  abbrev AreFieldsBack : List (Name × Datum) → List (Named Expr) → Type 0
  AreFieldsBack fs xs = (is : List (Item Typed)) × TypesItems s scope xs is × (map column_of is ≡ on_values type_of fs) × (in_turn (named_at env) (items_meant m is) ≡ Ok fs)

  no_field_back : AreFieldsBack [] []
  no_field_back = ([], types.no_items, refl, refl)

  next_field_back : (n : Name) (d : Datum) (a : Expr) (fs : List (Name × Datum)) (xs : List (Named Expr)) → IsValue s d → IsBack d a → AreFieldsBack fs xs → AreFieldsBack ((n, d) ∷ fs) (record { name = n; value = a } ∷ xs)
  unfolding named_at
  next_field_back n d a fs xs value one rest = (
    item_of n (value_kind d) one.0 ∷ rest.0,
    types.next_item one.1 rest.1,
    (λ i. (n, sym (canonical s d value) i) ∷ rest.2 i),
    λ i. and_then (and_then (one.2 i) (λ c. Ok (n, c))) (λ f. and_then (rest.3 i) (λ gs. Ok (f ∷ gs))),
  )

  attributes_are : (h : Header) (w : Attrs) → heading_of w ≡ header_fields h → tuple_of (attributes w) ≡ w
  attributes_are h w fits = ap attrs_of (entries-from_entries (attributes w) (fits_sorted h w fits)) ∙ attrs_attributes w

  distinct_names : (h : Header) (w : Attrs) → heading_of w ≡ header_fields h → are_distinct (names (attr_trees w)) ≡ true
  distinct_names h w fits =
      ap are_distinct (names_listed w ∙ ap keys_of (fits_typed h w fits)) ∙ sorted_distinct (by_name.entries h) (by_name.entries_sorted h)

  tuple_back : (w : Attrs) → AreColumns (heading_of w) → AreFieldsBack (attributes w) (attr_trees w) → IsBack (tuple w) (e.Tuple (attr_trees w))
  unfolding mean_tuple
  tuple_back w are rest =
      let h = are.0 in
      let columns : columns_of rest.0 ≡ header_of (heading_of w) =
      ap by_name.from_entries (rest.2 ∙ fits_typed h w are.1) ∙ from_entries-entries h ∙ sym (ap header_of are.1 ∙ header_back h) in (
        t.Tuple rest.0,
        subst (λ (g : Header). Types s scope (e.Tuple (attr_trees w)) (t.Tuple rest.0) (kind.Tuple g)) columns (types.tuple (distinct_names h w are.1) rest.1),
        by_form (t.Tuple rest.0) (mean_tuple (items_meant m rest.0)) (tuple w) (forms.of_tuple relvars selection rest.0)
            (ap (λ r. and_then r (λ fs. Ok (tuple (tuple_of fs)))) rest.3 ∙ ap (λ v. Ok (tuple v)) (attributes_are h w are.1)),
      )

  -- ---- relations
  abbrev values_in : Tuples → List Datum
  values_in ts = map tuple (tuple_list ts)

  kinds_all : (fs : Fields) (ts : Tuples) → AreTuples s fs ts → list_all (same_kind (kind.Tuple (header_of fs))) (map value_kind (values_in ts)) ≡ true
  kinds_all fs no_tuples are = refl
  kinds_all fs (next_tuple w ts) are =
      let one : same_kind (kind.Tuple (header_of fs)) (value_kind (tuple w)) ≡ true = ap (λ gs. same_kind (kind.Tuple (header_of fs)) (kind.Tuple (header_of gs))) are.0 ∙ same_itself (kind.Tuple (header_of fs)) in
      rw one (kinds_all fs ts are.2)

  all_fit : (fs : Fields) (ts : Tuples) → AreColumns fs → AreTuples s fs ts → in_turn (tuple_over (header_of fs)) (values_in ts) ≡ Ok (tuple_list ts)
  all_fit fs no_tuples cs are = refl
  all_fit fs (next_tuple w ts) cs are =
      let fit : fits (header_of fs) w ≡ true = fields_itself (heading_of w) (header_fields (header_of fs)) (are.0 ∙ sym (fields_back fs cs)) in
      λ i. and_then (if fit i then Ok w else Err Untyped) (λ v. and_then (all_fit fs ts cs are.2 i) (λ vs. Ok (v ∷ vs)))

  rows_back : (fs : Fields) (ts : Tuples) → AreColumns fs → AreTuples s fs ts → AreRowsOf fs ts → relation_over (header_of fs) (values_in ts) ≡ Ok (relation fs ts)
  rows_back fs ts cs are rows =
      ap (λ r. and_then r (λ us. as_value (relation_from (header_of fs) us))) (all_fit fs ts cs are)
      ∙ (λ i. Ok (relation (fields_back fs cs i) (tuples_of (sym (tuples_are (tuple_list ts) (tuple_set (tuple_list ts)) (ascends fs ts rows) refl) i))))
      ∙ ap (λ us. Ok (relation fs us)) (tuples_listed ts)

  relation_back : (fs : Fields) (ts : Tuples) → AreColumns fs → AreDefined s fs → AreTuples s fs ts → AreRowsOf fs ts → AreBack (values_in ts) (tuple_trees ts) → IsBack (relation fs ts) (tree (relation fs ts))
  unfolding mean_relation
  relation_back fs ts cs defined are rows rest =
      let h = header_of fs in (
        t.Relation h (trees rest.0),
        types.headed (heading_back s fs cs defined) rest.1 (tuples_all h rest.0 (ap (list_all (same_kind (kind.Tuple h))) rest.2 ∙ kinds_all fs ts are)),
        by_form (t.Relation h (trees rest.0)) (mean_relation h (list_meant m (trees rest.0))) (relation fs ts) (forms.of_relation relvars selection h (trees rest.0))
            (ap (λ r. and_then r (relation_over h)) rest.3 ∙ rows_back fs ts cs are rows),
      )

  -- ---- the walk along the value
  mutual
    pub back : (d : Datum) → IsValue s d → IsWhole d → IsWritten s selection d → IsBack d (tree d)
    back (boolean b) v o w = (t.Truth b, types.truth, by_form (t.Truth b) (λ x. Ok (boolean b)) (boolean b) (forms.of_truth relvars selection b) refl)
    back (integer n) v o w = integer_by (int_eq n (negsuc 9223372036854775807)) n refl w
    back (char x) v o w = (t.Text x, types.text, by_form (t.Text x) (λ y. Ok (char x)) (char x) (forms.of_text relvars selection x) refl)
    back (user p is) v o w = user_back p is v.0 w.1 (items_back is v.1 o w.2)
    back (tuple x) v o w = tuple_back x v.0 (attributes_back x v.1 o w)
    back (relation fs ts) v o w = relation_back fs ts v.0 w.0 v.1 o (tuples_back fs ts v.0 v.1 o w.1)

    items_back : (is : Items) → AreValues s is → AreWhole is → AreWritten s selection is → AreBack (item_list is) (item_trees is)
    items_back no_items v o w = none_back
    items_back (item d is) v o w = next_back d (tree d) (item_list is) (item_trees is) (back d v.0 o.0 w.0) (items_back is v.1 o.1 w.1)

    attributes_back : (x : Attrs) → AreAttributes s x → IsWholeTuple x → AreWrittenAttributes s selection x → AreFieldsBack (attributes x) (attr_trees x)
    attributes_back no_attrs v o w = no_field_back
    attributes_back (attr n d x) v o w = next_field_back n d (tree d) (attributes x) (attr_trees x) v.0 (back d v.0 o.0 w.1) (attributes_back x v.1 o.2 w.2)

    tuples_back : (fs : Fields) (ts : Tuples) → AreColumns fs → AreTuples s fs ts → AreRowsOf fs ts → AreWrittenTuples s selection ts → AreBack (values_in ts) (tuple_trees ts)
    tuples_back fs no_tuples cs v o w = none_back
    tuples_back fs (next_tuple x ts) cs v o w =
        next_back (tuple x) (e.Tuple (attr_trees x)) (values_in ts) (tuple_trees ts) (tuple_back x (cs.0, v.0 ∙ cs.1) (attributes_back x v.1 o.1 w.0)) (tuples_back fs ts cs v.2 o.3 w.1)
