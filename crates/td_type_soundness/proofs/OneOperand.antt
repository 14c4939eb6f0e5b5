-- Operators of one operand: of a value of a kind they make one of their kind, or raise an error.
use Rattle.std.proofs.Common.{◌≡◌, ℕ, zero, suc, ◌+◌, arith, ℤ, neg_ℤ, pos, not, ◌==◌, length, Bool, true, false, if◌then◌else◌, List, [], ◌∷◌, map, slice_get, Option, None, Some, Ok, Err, refl, sym, ap, ◌∙◌, subst, inl}
use Rattle.std.specs.FinMap as by_name
use Rattle.std.specs.Option.{option_map}
use Rattle.td_values.specs.Attributes.{attribute_of}
use Rattle.td_values.specs.Data.{Ty, Datum, boolean, integer, user, relation, Items, no_items, item, Attrs}
use Rattle.td_values.specs.Headings.{Header, header_fields}
use Rattle.td_values.specs.Rows.{RowsData}
use Rattle.td_values.specs.View.{ty_of}
use Rattle.td_values.specs.Whole.{type_of}
use Rattle.td_values.specs.declared.TypeKind.{TypeKind}
use Rattle.td_values.specs.declared.TypeKind.TheVariants as kind
use Rattle.td_syntax.specs.declared.tree.Named.{Named}
use Rattle.td_syntax.specs.declared.tree.Nesting.{Nesting}
use Rattle.td_syntax.specs.declared.tree.UnaryOperator.{UnaryOperator}
use Rattle.td_syntax.specs.declared.tree.UnaryOperator.TheVariants as unary
use Rattle.td_tuples.specs.Parts.{is_in, cut, columns_in}
use Rattle.td_tuples.specs.Renamings.{renamed_columns}
use Rattle.td_tuples.proofs.ByName.{fits_get}
use Rattle.td_values.specs.declared.raises.Raise.TheVariants.{Overflow, Cardinality}
use Rattle.td_algebra.specs.declared.errors.Stop.TheVariants.{Untyped, Error}
use Rattle.td_algebra.specs.Functions.{project_of, rename_of, tclose_of}
use Rattle.td_algebra.specs.Raising as raising
use Rattle.td_algebra.proofs.Lists.{In}
use Rattle.td_algebra.specs.Summaries.{in_64_bits}
use Rattle.td_schema.specs.declared.schema.Representation.{Representation}
use Rattle.td_schema.specs.Forms as forms
use Rattle.td_schema.specs.Forms.{kind_heading, renamed_kind, nested_heading, unnested_heading, attribute_kind, from_kind}
use Rattle.td_schema.specs.Kinds.{Name, kind_of, is_boolean, is_integer, relation_heading, tuple_heading}
use Rattle.td_schema.specs.Lists.{may_rename}
use Rattle.td_schema.specs.Operators as tables
use Rattle.td_schema.specs.Results.{where_true}
use Rattle.td_schema.specs.Schemas.{SchemaData, type_named, first_from, component_named, is_named}
use Rattle.td_operators.specs.Operators.{within_64_bits, only_tuple, is_pair, closed, operate_on, component_at, attribute_at, part_at, with_new_names, as_value, nested, nested_of, unnested, unnested_of}
use Rattle.td_operators.specs.Values.{truth_of, integer_of, tuple_in, rows_of, item_list, known}
use Rattle.td_typing.proofs.KindLemmas as kinds
use Rattle.td_type_soundness.specs.Values.{IsValue, AreValues, AreComponentsOf, HasPossrep}
use Rattle.td_type_soundness.specs.Meanings.{GivesValue, HasKind, IsTupleOver, IsRelationOver}
use Rattle.td_type_soundness.proofs.Errors.{goes_on, error_is}
use Rattle.td_type_soundness.proofs.Attributes.{value_at, has_part}
use Rattle.td_type_soundness.proofs.Closing.{closure_is}
use Rattle.td_type_soundness.proofs.Nesting.{nested_is, unnested_is}
use Rattle.td_type_soundness.proofs.Relations.{projection_is, renaming_is}
use Rattle.td_type_soundness.proofs.Shapes as shapes
use Rattle.td_type_soundness.proofs.Tables.{passed, inverted, tuple_kind, integer_kind, closes}
use Rattle.td_type_soundness.proofs.Values.{Whatever, canonical, truth_given, integer_given, a_tuple, tuple_given, rows_given, tuple_has, relation_has, has_heading}

-- the tests of a pair are one
pair_tests : (fs : List (Name × Ty)) → is_pair fs ≡ tables.are_of_one_type fs
pair_tests [] = refl
pair_tests (f ∷ []) = refl
pair_tests (f ∷ g ∷ []) = refl
pair_tests (f ∷ g ∷ h ∷ fs) = refl

-- what is found stands at its place
here_or_further : {A : Type 0} (b : Bool) (n : ℕ) (x : A) (xs : List A) (o : Option (ℕ × A)) (r : ℕ × A) → (o ≡ Some r → (j : ℕ) × (r.0 ≡ (n + 1) + j) × (slice_get xs j ≡ Some r.1)) → (if b then Some (n, x) else o) ≡ Some r → (j : ℕ) × (r.0 ≡ n + j) × (slice_get (x ∷ xs) j ≡ Some r.1)
here_or_further true n x xs o r rest e = (0, (let place : r.0 ≡ n = cc in omega (arith, place)), cc)
here_or_further false n x xs o r rest e = let s = rest e in (suc s.0, omega (arith, s.1), s.2)

stands : {A : Type 0} (n : ℕ) (test : A → Bool) (xs : List A) (r : ℕ × A) → first_from n test xs ≡ Some r → (j : ℕ) × (r.0 ≡ n + j) × (slice_get xs j ≡ Some r.1)
stands n test [] r e = cc
stands n test (x ∷ xs) r e = here_or_further (test x) n x xs (first_from (n + 1) test xs) r (stands (n + 1) test xs r) e

pub placed : {A : Type 0} (test : A → Bool) (xs : List A) (i : ℕ) (x : A) → first_from 0 test xs ≡ Some (i, x) → slice_get xs i ≡ Some x
placed test xs i x e =
    let s = stands 0 test xs (i, x) e in
    let same : s.0 ≡ i = omega (arith, s.1) in
    ap (slice_get xs) (sym same) ∙ s.2

second_same : {A B : Type 0} (a c : A) (b d : B) → ◌≡◌ {A = Option (A × B)} (Some (a, b)) (Some (c, d)) → b ≡ d
second_same {A} {B} a c b d e = ap (λ (x : A × B). x.1) (kinds.some_same {A = A × B} (a, b) (c, d) e)

module _ (s : SchemaData) where
  -- a value of a kind that is another one
  pub of_kind : (j k : TypeKind) (d : Datum) → j ≡ k → HasKind s j d → HasKind s k d
  of_kind j k d e has = subst (λ l. HasKind s l d) e has

  pub as_relation : (h : Header) (r : RowsData) → IsRelationOver s h r → GivesValue s (kind.Relation h) (as_value r)
  as_relation h r is = relation_has s h r is

  pub in_64_bits_gives : (b : Bool) (n : ℤ) → GivesValue s kind.Integer (if b then Ok (integer n) else Err (Error Overflow))
  in_64_bits_gives true n = (refl, tt)
  in_64_bits_gives false n = error_is Overflow

  -- ---- unary operators
  not_gives : (d : Datum) → HasKind s kind.Boolean d → GivesValue s kind.Boolean (operate_on unary.Not d)
  not_gives d has = goes_on (Whatever {A = Bool}) (HasKind s kind.Boolean) (λ b. Ok (boolean (not b))) (truth_of d) (truth_given s d has) (λ b any. (refl, tt))

  negate_gives : (d : Datum) → HasKind s kind.Integer d → GivesValue s kind.Integer (operate_on unary.Negate d)
  negate_gives d has = goes_on (Whatever {A = ℤ}) (HasKind s kind.Integer) (λ n. within_64_bits (neg_ℤ n)) (integer_of d) (integer_given s d has) (λ n any. in_64_bits_gives (in_64_bits (neg_ℤ n)) (neg_ℤ n))

  closed_if : (b : Bool) (h : Header) (r : RowsData) → b ≡ true → IsRelationOver s h r → GivesValue s (kind.Relation h) (if b then as_value (tclose_of r) else Err Untyped)
  closed_if true h r e is = as_relation h (tclose_of r) (closure_is s h r is)
  closed_if false h r e is = absurd (cc)

  close_gives : (h : Header) (d : Datum) → tables.are_of_one_type (by_name.entries h) ≡ true → HasKind s (kind.Relation h) d → GivesValue s (kind.Relation h) (operate_on unary.Closure d)
  close_gives h d pairs has = goes_on (IsRelationOver s h) (HasKind s (kind.Relation h)) closed (rows_of d) (rows_given s h d has) (λ r is.
      closed_if (is_pair (by_name.entries r.heading)) h r (ap (λ g. is_pair (by_name.entries g)) is.heading ∙ pair_tests (by_name.entries h) ∙ pairs) is)

  only_gives : (h : Header) (ts : List Attrs) → ((t : Attrs) (us : List Attrs) → ts ≡ t ∷ us → IsTupleOver s h t) → GivesValue s (kind.Tuple h) (only_tuple ts)
  only_gives h [] each = error_is Cardinality
  only_gives h (t ∷ []) each = tuple_has s h t (each t [] refl)
  only_gives h (t ∷ u ∷ us) each = error_is Cardinality

  tuple_from_gives : (h : Header) (d : Datum) → HasKind s (kind.Relation h) d → GivesValue s (kind.Tuple h) (operate_on unary.TupleFrom d)
  tuple_from_gives h d has = goes_on (IsRelationOver s h) (HasKind s (kind.Tuple h)) (λ r. only_tuple r.tuples) (rows_of d) (rows_given s h d has) (λ r is.
      only_gives h r.tuples (λ t us e. has_heading s h r is t (subst (In t) (sym e) (inl refl))))

  is_empty_gives : (h : Header) (d : Datum) → HasKind s (kind.Relation h) d → GivesValue s kind.Boolean (operate_on unary.IsEmpty d)
  is_empty_gives h d has = goes_on (IsRelationOver s h) (HasKind s kind.Boolean) (λ r. Ok (boolean (length r.tuples == 0))) (rows_of d) (rows_given s h d has) (λ r is. (refl, tt))

  count_gives : (h : Header) (d : Datum) → HasKind s (kind.Relation h) d → GivesValue s kind.Integer (operate_on unary.Count d)
  count_gives h d has = goes_on (IsRelationOver s h) (HasKind s kind.Integer) (λ r. Ok (integer (pos (length r.tuples)))) (rows_of d) (rows_given s h d has) (λ r is. (refl, tt))

  pub unary_gives : (o : UnaryOperator) (j k : TypeKind) (d : Datum) → tables.unary_kind o j ≡ Some k → HasKind s j d → GivesValue s k (operate_on o d)
  unary_gives unary.Not j k d e has =
      let p = passed (is_boolean j) kind.Boolean k e in
      subst (λ l. GivesValue s l (operate_on unary.Not d)) p.1 (not_gives d (of_kind j kind.Boolean d (kinds.boolean j p.0) has))
  unary_gives unary.Negate j k d e has =
      let p = passed (is_integer j) kind.Integer k e in
      subst (λ l. GivesValue s l (operate_on unary.Negate d)) p.1 (negate_gives d (of_kind j kind.Integer d (integer_kind j p.0) has))
  unary_gives unary.Closure j k d e has =
      let p = closes j k e in
      subst (λ l. GivesValue s l (operate_on unary.Closure d)) p.result (close_gives p.heading d p.pairs (of_kind j (kind.Relation p.heading) d p.operand has))
  unary_gives unary.TupleFrom j k d e has =
      let p = inverted (relation_heading j) (λ h. Some (kind.Tuple h)) k e in
      subst (λ l. GivesValue s l (operate_on unary.TupleFrom d)) (kinds.some_same (kind.Tuple p.0) k p.2) (tuple_from_gives p.0 d (of_kind j (kind.Relation p.0) d (kinds.relation j p.0 p.1) has))
  unary_gives unary.IsEmpty j k d e has =
      let p = inverted (relation_heading j) (λ h. Some kind.Boolean) k e in
      subst (λ l. GivesValue s l (operate_on unary.IsEmpty d)) (kinds.some_same kind.Boolean k p.2) (is_empty_gives p.0 d (of_kind j (kind.Relation p.0) d (kinds.relation j p.0 p.1) has))
  unary_gives unary.Count j k d e has =
      let p = inverted (relation_heading j) (λ h. Some kind.Integer) k e in
      subst (λ l. GivesValue s l (operate_on unary.Count d)) (kinds.some_same kind.Integer k p.2) (count_gives p.0 d (of_kind j (kind.Relation p.0) d (kinds.relation j p.0 p.1) has))

  -- ---- a component
  at_place : (cs : List (Named TypeKind)) (is : Items) (i : ℕ) (f : Named TypeKind) → map type_of (item_list is) ≡ map ty_of (map (λ (c : Named TypeKind). c.value) cs) → AreValues s is → slice_get cs i ≡ Some f → GivesValue s f.value (known (slice_get (item_list is) i))
  at_place [] is i f e v at = absurd (cc)
  at_place (c ∷ cs) no_items i f e v at = absurd (cc)
  at_place (c ∷ cs) (item d is) zero f e v at =
      let typed : type_of d ≡ ty_of c.value = cc in
      subst (λ (g : Named TypeKind). HasKind s g.value d) (kinds.some_same c f at) (typed, v.0)
  at_place (c ∷ cs) (item d is) (suc i) f e v at =
      let rest : map type_of (item_list is) ≡ map ty_of (map (λ (c : Named TypeKind). c.value) cs) = cc in
      at_place cs is i f rest v.1 at

  pub component_gives : (m : Name) (n i : ℕ) (r : Representation) (f : Named TypeKind) (x : Name) (d : Datum) → type_named s m ≡ Some (n, r) → component_named r.components x ≡ Some (i, f) → HasKind s (kind.User m) d → GivesValue s f.value (component_at i d)
  component_gives m n i r f x d named has is =
      let u = shapes.a_user_value d m is.0 in
      let value : IsValue s (user u.0 u.1) = subst (IsValue s) u.2 is.1 in
      let own : HasPossrep s u.0 u.1 = value.0 in
      let same : own.1 ≡ r = second_same own.0 n own.1 r (sym own.2 ∙ ap (type_named s) u.3 ∙ named) in
      subst (λ c. GivesValue s f.value (component_at i c)) (sym u.2)
      (at_place r.components u.1 i f (subst (λ q. AreComponentsOf q u.1) same own.4) value.1 (placed (is_named x) r.components i f has))

  -- ---- an attribute
  -- what stands at a name of a tuple
  pub attribute_has : (h : Header) (t : Attrs) (x : Name) (ty : Ty) (d : Datum) → IsTupleOver s h t → by_name.get h x ≡ Some ty → attribute_of x t ≡ Some d → HasKind s (kind_of ty) d
  attribute_has h t x ty d has typed is =
      let value : IsValue s d = value_at s x t d has.1 is in
      let one : type_of d ≡ ty = kinds.some_same (type_of d) ty (sym (fits_get h t has.0 x ∙ ap (option_map type_of) is) ∙ typed) in
      (subst (λ u. type_of d ≡ ty_of (kind_of u)) one (canonical s d value), value)

  known_gives : (h : Header) (t : Attrs) (x : Name) (ty : Ty) → IsTupleOver s h t → by_name.get h x ≡ Some ty → (o : Option Datum) → attribute_of x t ≡ o → GivesValue s (kind_of ty) (known o)
  known_gives h t x ty has typed None is = let none : None ≡ Some ty = sym (fits_get h t has.0 x ∙ ap (option_map type_of) is) ∙ typed in absurd (cc)
  known_gives h t x ty has typed (Some d) is = attribute_has h t x ty d has typed is

  pub attribute_gives : (x : Name) (j k : TypeKind) (d : Datum) → from_kind x j ≡ Some k → HasKind s j d → GivesValue s k (attribute_at x d)
  unfolding from_kind attribute_kind
  attribute_gives x j k d e has =
      let p = inverted (tuple_heading j) (attribute_kind x) k e in
      let q = inverted (by_name.get p.0 x) (λ ty. Some (kind_of ty)) k p.2 in
      subst (λ l. GivesValue s l (attribute_at x d)) (kinds.some_same (kind_of q.0) k q.2)
      (goes_on (IsTupleOver s p.0) (HasKind s (kind_of q.0)) (λ t. known (attribute_of x t)) (tuple_in d) (tuple_given s p.0 d (of_kind j (kind.Tuple p.0) d (tuple_kind j p.0 p.1) has)) (λ t is. known_gives p.0 t x q.0 is q.1 (attribute_of x t) refl))

  -- ---- parts and new names
  part_of_tuple : (ns : List Name) (h : Header) (d : Datum) → HasKind s (kind.Tuple h) d → GivesValue s (kind.Tuple (columns_in ns h)) (part_at ns d)
  part_of_tuple ns h d has =
      let t = a_tuple s h d has in
      subst (λ c. GivesValue s (kind.Tuple (columns_in ns h)) (part_at ns c)) (sym t.1) (tuple_has s (columns_in ns h) (cut ns t.0) (has_part s (is_in ns) h t.0 t.2))

  project_rows : (ns : List Name) (h : Header) (d : Datum) → HasKind s (kind.Relation h) d → GivesValue s (kind.Relation (columns_in ns h)) (raising.and_then (rows_of d) (λ r. as_value (project_of ns r)))
  project_rows ns h d has = goes_on (IsRelationOver s h) (HasKind s (kind.Relation (columns_in ns h))) (λ r. as_value (project_of ns r)) (rows_of d) (rows_given s h d has) (λ r is. as_relation (columns_in ns h) (project_of ns r) (projection_is s ns h r is))

  part_of_relation : (ns : List Name) (h : Header) (d : Datum) → HasKind s (kind.Relation h) d → GivesValue s (kind.Relation (columns_in ns h)) (part_at ns d)
  part_of_relation ns h d has =
      let r = shapes.a_relation d (header_fields h) has.0 in
      subst (λ c. GivesValue s (kind.Relation (columns_in ns h)) (part_at ns c)) (sym r.2) (project_rows ns h (relation r.0 r.1) (subst (HasKind s (kind.Relation h)) r.2 has))

  pub part_gives : (ns : List Name) (k : TypeKind) (h : Header) (d : Datum) → kind_heading k ≡ Some h → HasKind s k d → GivesValue s (forms.part_kind ns k) (part_at ns d)
  part_gives ns kind.Boolean h d e has = absurd (cc)
  part_gives ns kind.Integer h d e has = absurd (cc)
  part_gives ns kind.Char h d e has = absurd (cc)
  part_gives ns (kind.User n) h d e has = absurd (cc)
  part_gives ns (kind.Tuple g) h d e has = part_of_tuple ns g d has
  part_gives ns (kind.Relation g) h d e has = part_of_relation ns g d has

  pub rename_gives : (items : List (Name × Name)) (j k : TypeKind) (d : Datum) → renamed_kind items j ≡ Some k → HasKind s j d → GivesValue s k (with_new_names items d)
  unfolding renamed_kind
  rename_gives items j k d e has =
      let p = inverted (relation_heading j) (λ h. where_true (may_rename items h) (kind.Relation (renamed_columns items h))) k e in
      let q = passed (may_rename items p.0) (kind.Relation (renamed_columns items p.0)) k p.2 in
      subst (λ l. GivesValue s l (with_new_names items d)) q.1
      (goes_on (IsRelationOver s p.0) (HasKind s (kind.Relation (renamed_columns items p.0))) (λ r. as_value (rename_of items r)) (rows_of d) (rows_given s p.0 d (of_kind j (kind.Relation p.0) d (kinds.relation j p.0 p.1) has)) (λ r is. as_relation (renamed_columns items p.0) (rename_of items r) (renaming_is s items p.0 r is)))

  -- ---- relations and tuples in attributes
  pub nest_gives : (o : Nesting) (ns : List Name) (c : Name) (h g : Header) (d : Datum) → nested_heading o ns c h ≡ Some g → HasKind s (kind.Relation h) d → GivesValue s (kind.Relation g) (nested o ns c d)
  nest_gives o ns c h g d e has = goes_on (IsRelationOver s h) (HasKind s (kind.Relation g)) (λ r. as_value (nested_of o ns c r)) (rows_of d) (rows_given s h d has) (λ r is. as_relation g (nested_of o ns c r) (nested_is s o ns c h g r e is))

  pub unnest_gives : (o : Nesting) (c : Name) (h g : Header) (d : Datum) → unnested_heading o c h ≡ Some g → HasKind s (kind.Relation h) d → GivesValue s (kind.Relation g) (unnested o c d)
  unnest_gives o c h g d e has =
      goes_on (IsRelationOver s g) (HasKind s (kind.Relation g)) as_value (raising.and_then (rows_of d) (unnested_of o c))
      (goes_on (IsRelationOver s h) (IsRelationOver s g) (unnested_of o c) (rows_of d) (rows_given s h d has) (λ r is. unnested_is s o c h g r e is))
      (λ r is. as_relation g r is)
