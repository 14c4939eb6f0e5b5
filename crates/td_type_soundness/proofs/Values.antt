-- Values by their kinds.
use Rattle.std.proofs.Common.{◌≡◌, ℕ, ℤ, Bool, List, [], ◌∷◌, refl, sym, ap, ◌∙◌, subst, inl, inr}
use Rattle.td_values.specs.Data.{tuple_type, relation_type, Fields, Datum, boolean, integer, char, user, tuple, relation, Attrs, Tuples, no_tuples, next_tuple, tuples_of}
use Rattle.td_values.specs.Headings.{Header, header_fields, header_of}
use Rattle.td_values.specs.Rows.{RowsData}
use Rattle.td_values.specs.View.{ty_of}
use Rattle.td_values.specs.Whole.{type_of, heading_of}
use Rattle.td_values.specs.declared.TypeKind.TheVariants as kind
use Rattle.td_values.proofs.TupleLemmas.{header_back}
use Rattle.td_algebra.specs.Nested.{relation_value, tuple_list}
use Rattle.td_algebra.proofs.Lists.{in_all, all_in}
use Rattle.td_schema.specs.Kinds.{kind_of}
use Rattle.td_schema.specs.Schemas.{SchemaData}
use Rattle.td_operators.specs.Values.{truth_of, integer_of, text_of, tuple_in, rows_of}
use Rattle.td_type_soundness.specs.Values.{AreColumns, IsValue, AreAttributes, AreTuples}
use Rattle.td_type_soundness.specs.Meanings.{OrError, HasKind, IsTupleOver, IsRelationOver, GivesRelation}
use Rattle.td_type_soundness.proofs.Errors.{Each, with_first}
use Rattle.td_type_soundness.proofs.Shapes as shapes

-- nothing is asked of it
abbrev pub Whatever : {A : Type 0} → A → Type 0
Whatever a = Unit {0}

fields_back : (fs : Fields) → AreColumns fs → header_fields (header_of fs) ≡ fs
fields_back fs are = ap (λ gs. header_fields (header_of gs)) are.1 ∙ ap header_fields (header_back are.0) ∙ sym are.1

module _ (s : SchemaData) where
  -- the type of a value is that of its kind
  pub canonical : (d : Datum) → IsValue s d → type_of d ≡ ty_of (kind_of (type_of d))
  canonical (boolean b) v = refl
  canonical (integer n) v = refl
  canonical (char x) v = refl
  canonical (user p is) v = refl
  canonical (tuple t) v = ap tuple_type (sym (fields_back (heading_of t) v.0))
  canonical (relation fs ts) v = ap relation_type (sym (fields_back fs v.0))

  -- ---- what a value of a kind gives
  pub truth_given : (d : Datum) → HasKind s kind.Boolean d → OrError (Whatever {A = Bool}) (truth_of d)
  truth_given d has = let b = shapes.a_truth d has.0 in subst (λ c. OrError (Whatever {A = Bool}) (truth_of c)) (sym b.1) tt

  pub integer_given : (d : Datum) → HasKind s kind.Integer d → OrError (Whatever {A = ℤ}) (integer_of d)
  integer_given d has = let n = shapes.an_integer d has.0 in subst (λ c. OrError (Whatever {A = ℤ}) (integer_of c)) (sym n.1) tt

  pub text_given : (d : Datum) → HasKind s kind.Char d → OrError (Whatever {A = List ℕ}) (text_of d)
  text_given d has = let x = shapes.a_text d has.0 in subst (λ c. OrError (Whatever {A = List ℕ}) (text_of c)) (sym x.1) tt

  -- ---- tuples
  -- a tuple, with its heading
  pub a_tuple : (h : Header) (d : Datum) → HasKind s (kind.Tuple h) d → (t : Attrs) × (d ≡ tuple t) × IsTupleOver s h t
  a_tuple h d has =
      let t = shapes.a_tuple d (header_fields h) has.0 in
      let value : IsValue s (tuple t.0) = subst (IsValue s) t.1 has.1 in
      (t.0, t.1, (t.2, value.1))

  pub tuple_given : (h : Header) (d : Datum) → HasKind s (kind.Tuple h) d → OrError (IsTupleOver s h) (tuple_in d)
  tuple_given h d has = let t = a_tuple h d has in subst (λ c. OrError (IsTupleOver s h) (tuple_in c)) (sym t.1) t.2

  pub tuple_has : (h : Header) (t : Attrs) → IsTupleOver s h t → HasKind s (kind.Tuple h) (tuple t)
  tuple_has h t has = (ap tuple_type has.0, ((h, has.0), has.1))

  -- ---- relations
  abbrev IsOver : Fields → Attrs → Type 0
  IsOver fs t = (heading_of t ≡ fs) × AreAttributes s t

  tuples_listed : (fs : Fields) (ts : Tuples) → AreTuples s fs ts → Each (IsOver fs) (tuple_list ts)
  tuples_listed fs no_tuples are = λ t m. absurd m
  tuples_listed fs (next_tuple t ts) are = with_first (IsOver fs) t (tuple_list ts) (are.0, are.1) (tuples_listed fs ts are.2)

  tuples_built : (fs : Fields) (ts : List Attrs) → Each (IsOver fs) ts → AreTuples s fs (tuples_of ts)
  tuples_built fs [] each = tt
  tuples_built fs (t ∷ ts) each = let one = each t (inl refl) in (one.0, one.1, tuples_built fs ts (λ u m. each u (inr m)))

  pub tuples_given : (h : Header) (fs : Fields) (ts : Tuples) → fs ≡ header_fields h → AreTuples s fs ts → Each (IsTupleOver s h) (tuple_list ts)
  tuples_given h fs ts e are t m = let one = tuples_listed fs ts are t m in (one.0 ∙ e, one.1)

  of_fields : (h : Header) (fs : Fields) (ts : Tuples) → fs ≡ header_fields h → AreTuples s fs ts → IsRelationOver s h (record { heading = header_of fs; tuples = tuple_list ts })
  of_fields h fs ts e are = record {
    heading = ap header_of e ∙ header_back h;
    tuples = in_all (IsTupleOver s h) (tuple_list ts) (tuples_given h fs ts e are);
  }

  pub rows_given : (h : Header) (d : Datum) → HasKind s (kind.Relation h) d → GivesRelation s h (rows_of d)
  rows_given h d has =
      let r = shapes.a_relation d (header_fields h) has.0 in
      let value : IsValue s (relation r.0 r.1) = subst (IsValue s) r.2 has.1 in
      subst (λ c. GivesRelation s h (rows_of c)) (sym r.2) (of_fields h r.0 r.1 r.3 value.1)

  pub has_heading : (h : Header) (r : RowsData) → IsRelationOver s h r → Each (IsTupleOver s h) r.tuples
  has_heading h r is = all_in (IsTupleOver s h) r.tuples is.tuples

  pub relation_has : (h : Header) (r : RowsData) → IsRelationOver s h r → HasKind s (kind.Relation h) (relation_value r)
  relation_has h r is = (
    ap (λ g. relation_type (header_fields g)) is.heading,
    (
      (r.heading, refl),
      tuples_built (header_fields r.heading) r.tuples (λ t m. let has = has_heading h r is t m in (has.0 ∙ sym (ap header_fields is.heading), has.1)),
    ),
  )
