-- Functions of tuples: restriction, extension, summaries.
use Rattle.std.proofs.Common.{◌≡◌, ℕ, Bool, true, false, if◌then◌else◌, List, [], ◌∷◌, map, Result, Ok, Err, refl, sym, ap, subst, inl, inr, true≢false}
use Rattle.std.specs.FinMap as by_name
use Rattle.std.specs.List.{fold, list_all, list_any}
use Rattle.std.specs.Ordering.{eq_by_cmp, is_eq, is_lt}
use Rattle.td_values.specs.Data.{Ty, Datum, boolean, Attrs}
use Rattle.td_values.specs.Headings.{Header}
use Rattle.td_values.specs.Order.{order, attrs_order, text_cmp, ty_order}
use Rattle.td_values.specs.Rows.{RowsData}
use Rattle.td_values.specs.Whole.{type_of}
use Rattle.td_values.specs.declared.TypeKind.{TypeKind}
use Rattle.td_values.specs.declared.raises.Raise.TheVariants.{Empty}
use Rattle.td_syntax.specs.declared.tree.Aggregate.{Aggregate}
use Rattle.td_syntax.specs.declared.tree.Aggregate.TheVariants as aggregate
use Rattle.td_tuples.specs.Items.{column_of, columns_of, extended_columns}
use Rattle.td_tuples.specs.Parts.{names_of, cut}
use Rattle.td_tuples.specs.Unions.{tuple_of, beside}
use Rattle.td_tuples.specs.declared.items.Item.{Item}
use Rattle.td_tuples.specs.declared.items.Summary.{Summary}
use Rattle.td_tuples.specs.declared.items.Summary.TheVariants as summary
use Rattle.td_algebra.specs.declared.errors.Stop.{Stop}
use Rattle.td_algebra.specs.declared.errors.Stop.TheVariants.{Untyped}
use Rattle.td_algebra.specs.Extending.{TermMeaning, typed_field, field_at, fields_at, extended_at}
use Rattle.td_algebra.specs.Functions.{relation_from, restricted, extended, summarized}
use Rattle.td_algebra.specs.Raising.{all_of, alone, and_all, and_then}
use Rattle.td_algebra.specs.Restricting.{select}
use Rattle.td_algebra.specs.Summaries.{group_of, whole_sum, in_64_bits, sum_of, greater, lesser_of, most, is_true, fold_of, summary_over, over_groups}
use Rattle.td_algebra.proofs.Lists.{In, in_filter}
use Rattle.td_schema.specs.Operators.{suits}
use Rattle.td_schema.specs.Kinds.{is_boolean}
use Rattle.td_schema.specs.Schemas.{SchemaData}
use Rattle.td_typing.specs.Trees.{summary_of}
use Rattle.td_typing.proofs.KindLemmas as kinds
use Rattle.td_type_soundness.specs.Values.{IsValue}
use Rattle.td_type_soundness.specs.Meanings.{OrError, GivesValue, HasKind, IsTupleOver, IsRelationOver, GivesRelation}
use Rattle.td_type_soundness.proofs.Errors.{Each, goes_on, with_first, all_are, lesser_is, error_is}
use Rattle.td_type_soundness.proofs.Attributes.{AreListed, has_beside, has_fields}
use Rattle.td_type_soundness.proofs.OneOperand.{in_64_bits_gives}
use Rattle.td_type_soundness.proofs.Relations.{of_list}
use Rattle.td_type_soundness.proofs.Tables.{integer_kind, type_itself}
use Rattle.td_type_soundness.proofs.Values.{Whatever, has_heading}

-- ---- what is selected
chosen : {X : Type 0} (b : Bool) (y : X) (ys zs : List X) (x : X) → (In x zs → In x ys) → In x (if b then y ∷ zs else zs) → In x (y ∷ ys)
chosen true y ys zs x rest (inl e) = inl e
chosen true y ys zs x rest (inr m) = inr (rest m)
chosen false y ys zs x rest m = inr (rest m)

in_select : {X : Type 0} (xs : List X) (bs : List Bool) (x : X) → In x (select xs bs) → In x xs
in_select [] bs x m = m
in_select (y ∷ ys) [] x m = absurd m
in_select (y ∷ ys) (b ∷ bs) x m = chosen b y ys (select ys bs) x (in_select ys bs x) m

-- a name with the type of its value
abbrev pub column_at : List ℕ × Datum → List ℕ × Ty
column_at f = (f.0, type_of f.1)

module _ (s : SchemaData) where
  pub restriction_is : (h : Header) (m : Attrs → Result Bool Stop) (r : RowsData) → IsRelationOver s h r → ((t : Attrs) → IsTupleOver s h t → OrError (Whatever {A = Bool}) (m t)) → GivesRelation s h (restricted m r)
  unfolding restricted
  restriction_is h m r is each =
      goes_on (Each (Whatever {A = Bool})) (IsRelationOver s h) (λ bs. Ok (relation_from r.heading (select r.tuples bs))) (all_of m r.tuples)
      (all_are (Whatever {A = Bool}) m r.tuples (λ t i. each t (has_heading s h r is t i)))
      (λ bs any. of_list s h r.heading (select r.tuples bs) is.heading (λ t i. has_heading s h r is t (in_select r.tuples bs t i)))

  -- ---- fields of items
  abbrev pub IsOf : Ty → Datum → Type 0
  IsOf ty d = (type_of d ≡ ty) × IsValue s d

  module _ {E : Type 0} where
    -- each term gives a value of its item's type
    abbrev pub TermsGive : (E → Result Datum Stop) → List (Item E) → Type 0
    TermsGive f [] = Unit {0}
    TermsGive f (i ∷ is) = OrError (IsOf i.ty) (f i.term) × TermsGive f is

    abbrev pub IsField : Item E → List ℕ × Datum → Type 0
    IsField i f = (column_at f ≡ column_of i) × IsValue s f.1

    abbrev pub AreFields : List (Item E) → List (List ℕ × Datum) → Type 0
    AreFields is fs = (map column_at fs ≡ map column_of is) × AreListed s fs

    pub more_fields : (i : Item E) (is : List (Item E)) (f : List ℕ × Datum) (fs : List (List ℕ × Datum)) → IsField i f → AreFields is fs → AreFields (i ∷ is) (f ∷ fs)
    more_fields i is f fs one are = ((λ j. one.0 j ∷ are.0 j), with_first (λ (x : List ℕ × Datum). IsValue s x.1) f fs one.1 are.1)

    pub tuple_of_fields : (is : List (Item E)) (fs : List (List ℕ × Datum)) → AreFields is fs → IsTupleOver s (columns_of is) (tuple_of fs)
    tuple_of_fields is fs are = subst (λ cs. IsTupleOver s (by_name.from_entries {R = text_cmp} cs) (tuple_of fs)) are.0 (has_fields s fs are.1)

    joined_fields : (i : Item E) (is : List (Item E)) (a : Result (List ℕ × Datum) Stop) (b : Result (List (List ℕ × Datum)) Stop) → OrError (IsField i) a → OrError (AreFields is) b → OrError (AreFields (i ∷ is)) (and_all (alone a) b)
    joined_fields i is (Ok f) (Ok fs) one are = more_fields i is f fs one are
    joined_fields i is (Ok f) (Err e) one are = are
    joined_fields i is (Err e) (Ok fs) one are = one
    joined_fields i is (Err e) (Err f) one are = lesser_is e f one are

    if_typed : (b : Bool) (i : Item E) (d : Datum) → b ≡ true → IsOf i.ty d → OrError (IsField i) (if b then Ok (i.name, d) else Err Untyped)
    if_typed true i d e is = ((λ j. (i.name, is.0 j)), is.1)
    if_typed false i d e is = absurd (true≢false (sym e))

    module _ (m : TermMeaning E) where
      field_gives : (t : Attrs) (i : Item E) → OrError (IsOf i.ty) (m i.term t) → OrError (IsField i) (field_at m t i)
      field_gives t i give = goes_on (IsOf i.ty) (IsField i) (typed_field i.name i.ty) (m i.term t) give (λ d is. if_typed (is_eq (ty_order (type_of d) i.ty)) i d (type_itself (type_of d) i.ty is.0) is)

      fields_give : (t : Attrs) (is : List (Item E)) → TermsGive (λ e. m e t) is → OrError (AreFields is) (fields_at m is t)
      fields_give t [] give = (refl, λ x i. absurd i)
      fields_give t (i ∷ is) give = joined_fields i is (field_at m t i) (all_of (field_at m t) is) (field_gives t i give.0) (fields_give t is give.1)

      extended_tuple : (is : List (Item E)) (h : Header) (t : Attrs) → IsTupleOver s h t → TermsGive (λ e. m e t) is → OrError (IsTupleOver s (extended_columns is h)) (extended_at m is t)
      extended_tuple is h t has give =
          goes_on (AreFields is) (IsTupleOver s (extended_columns is h)) (λ fs. Ok (beside (tuple_of fs) t)) (fields_at m is t) (fields_give t is give)
          (λ fs are. has_beside s (columns_of is) h (tuple_of fs) t (tuple_of_fields is fs are) has)

      pub extension_is : (is : List (Item E)) (h : Header) (r : RowsData) → IsRelationOver s h r → ((t : Attrs) → IsTupleOver s h t → TermsGive (λ e. m e t) is) → GivesRelation s (extended_columns is h) (extended m is r)
      unfolding extended
      extension_is is h r rel each =
          goes_on (Each (IsTupleOver s (extended_columns is h))) (IsRelationOver s (extended_columns is h)) (λ us. Ok (relation_from (extended_columns is r.heading) us)) (all_of (extended_at m is) r.tuples)
          (all_are (IsTupleOver s (extended_columns is h)) (extended_at m is) r.tuples (λ t i. extended_tuple is h t (has_heading s h r rel t i) (each t (has_heading s h r rel t i))))
          (λ us are. of_list s (extended_columns is h) (extended_columns is r.heading) us (ap (extended_columns is) rel.heading) are)

  -- ---- summaries
  one_of : (P : Datum → Type 0) (b : Bool) (d e : Datum) → P d → P e → P (if b then e else d)
  one_of P true d e p q = q
  one_of P false d e p q = p

  module _ (k : TypeKind) (better : Datum → Datum → Datum) (keeps : (d e : Datum) → HasKind s k d → HasKind s k e → HasKind s k (better d e)) where
    best_has : (d : Datum) (ds : List Datum) → HasKind s k d → Each (HasKind s k) ds → HasKind s k (fold better d ds)
    best_has d [] has each = has
    best_has d (e ∷ es) has each = best_has (better d e) es (keeps d e has (each e (inl refl))) (λ x m. each x (inr m))

    most_gives : (ds : List Datum) → Each (HasKind s k) ds → GivesValue s k (most better ds)
    most_gives [] each = error_is Empty
    most_gives (d ∷ ds) each = best_has d ds (each d (inl refl)) (λ x m. each x (inr m))

  module _ {E : Type 0} (m : TermMeaning E) (v : E) (ts : List Attrs) where
    over_values : (f : List Datum → Result Datum Stop) (k : TypeKind) → Each (λ t. GivesValue s k (m v t)) ts → ((ds : List Datum) → Each (HasKind s k) ds → GivesValue s k (f ds)) → GivesValue s k (and_then (all_of (m v) ts) f)
    over_values f k each made = goes_on (Each (HasKind s k)) (HasKind s k) f (all_of (m v) ts) (all_are (HasKind s k) (m v) ts each) made

    a_truth : (b : Bool) (k : TypeKind) → is_boolean k ≡ true → GivesValue s k (Ok (boolean b))
    a_truth b k may = subst (λ l. HasKind s l (boolean b)) (sym (kinds.boolean k may)) (refl, tt)

    pub summary_gives : (o : Aggregate) (k : TypeKind) → suits o k ≡ true → Each (λ t. GivesValue s k (m v t)) ts → GivesValue s k (summary_over m ts (summary_of o v))
    summary_gives aggregate.Sum k may each = over_values (fold_of (summary.Sum v)) k each (λ ds are.
        subst (λ l. GivesValue s l (sum_of ds)) (sym (integer_kind k may)) (in_64_bits_gives s (in_64_bits (whole_sum ds)) (whole_sum ds)))
    summary_gives aggregate.Max k may each = over_values (fold_of (summary.Max v)) k each (most_gives k greater (λ d e p q. one_of (HasKind s k) (is_lt (order d e)) d e p q))
    summary_gives aggregate.Min k may each = over_values (fold_of (summary.Min v)) k each (most_gives k lesser_of (λ d e p q. one_of (HasKind s k) (is_lt (order e d)) d e p q))
    summary_gives aggregate.And k may each = over_values (fold_of (summary.And v)) k each (λ ds are. a_truth (list_all is_true ds) k may)
    summary_gives aggregate.Or k may each = over_values (fold_of (summary.Or v)) k each (λ ds are. a_truth (list_any is_true ds) k may)

  module _ {E : Type 0} where
    -- over tuples of the heading each summary gives a value of its item's type
    abbrev pub SummariesGive : Header → TermMeaning E → List (Item (Summary E)) → Type 0
    SummariesGive h m [] = Unit {0}
    SummariesGive h m (i ∷ is) = ((ts : List Attrs) → Each (IsTupleOver s h) ts → OrError (IsOf i.ty) (summary_over m ts i.term)) × SummariesGive h m is

    over_group : (h : Header) (m : TermMeaning E) (is : List (Item (Summary E))) (ts : List Attrs) → Each (IsTupleOver s h) ts → SummariesGive h m is → TermsGive (λ x. summary_over m ts x) is
    over_group h m [] ts each give = tt
    over_group h m (i ∷ is) ts each give = (give.0 ts each, over_group h m is ts each give.1)

    pub summarization_is : (m : TermMeaning E) (is : List (Item (Summary E))) (h k : Header) (r per : RowsData) → IsRelationOver s h r → IsRelationOver s k per → SummariesGive h m is → GivesRelation s (extended_columns is k) (summarized m is r per)
    unfolding summarized
    summarization_is m is h k r per rel pers give = extension_is (over_groups m r per.heading) is k per pers (λ u has.
        over_group h m is (group_of r per.heading u)
        (λ t i. has_heading s h r rel t (in_filter (λ w. eq_by_cmp attrs_order (cut (names_of per.heading) w) u) r.tuples t i).0)
        give)
