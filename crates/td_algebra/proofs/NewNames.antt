-- Extension by new names: the tuples tell apart, so there are as many as before.
use Rattle.std.proofs.Common.{◌≡◌, ℕ, suc, Bool, true, false, cond, List, [], ◌∷◌, length, Option, None, Some, is_some, Result, Ok, Err, inl, inr, refl, sym, ap, ◌∙◌, subst, true≢false, if◌then◌else◌, arith}
use Rattle.std.specs.FinMap as by_name
use Rattle.std.specs.List.{All}
use Rattle.std.specs.Ordering.{eq_by_cmp, is_eq}
use Rattle.td_values.specs.Attributes.{attribute_of}
use Rattle.td_values.specs.Data.{Attrs, Datum, Ty}
use Rattle.td_values.specs.Headings.{Header}
use Rattle.td_values.specs.Order.{text_cmp, ty_order}
use Rattle.td_values.specs.Rows.{RowsData, AreRows}
use Rattle.td_values.specs.Whole.{type_of}
use Rattle.td_values.proofs.Walks.{is_tied}
use Rattle.td_tuples.specs.Items.{extended_columns}
use Rattle.td_tuples.specs.Parts.{Fits, cut, is_in, names_of}
use Rattle.td_tuples.specs.Unions.{beside, tuple_of}
use Rattle.td_tuples.specs.declared.items.Item.{Item}
use Rattle.td_tuples.proofs.ByName.{attribute-beside, attribute-tuple_of, attribute-where, fits_named, fits_sorted, same_tuple, sorted-tuple_of, sorted-where}
use Rattle.td_tuples.proofs.Lists.{or_else, same_name}
use Rattle.td_algebra.specs.declared.errors.Fault.{Fault}
use Rattle.td_algebra.specs.declared.errors.Fault.TheVariants.{Raised, OutOfMemory, Wanting}
use Rattle.td_algebra.specs.declared.errors.Stop.{Stop}
use Rattle.td_algebra.specs.declared.errors.Stop.TheVariants.{Untyped}
use Rattle.td_algebra.specs.Counts.{IsLengthOf}
use Rattle.td_algebra.specs.Extending.{Extended, RaisedBy, TermMeaning, extended_at, field_at, fields_at, typed_field}
use Rattle.td_algebra.specs.ForProofs.Checking.{AreNew, checked}
use Rattle.td_algebra.specs.Raising.{Answers, Unless, all_of, and_then}
use Rattle.td_algebra.proofs.Distinct.{AreDistinct, ascending_distinct, length_of_list}
use Rattle.td_algebra.proofs.Extensions.{are_extended, extension_fails, none_raised}
use Rattle.td_algebra.proofs.Lists.{In, all_in, contains_in, in_contains}
use Rattle.td_algebra.proofs.Walks.{answers_from, ok_split}

-- ---- answers of which only the errors are asked for
checked_ok : {A : Type 0} (m : Result A Stop) → checked m ≡ Ok tt → (x : A) × (m ≡ Ok x)
checked_ok (Ok x) e = (x, refl)
checked_ok (Err f) e = cc

checked_err : {A : Type 0} (m : Result A Stop) (e : Stop) → checked m ≡ Err e → m ≡ Err e
checked_err (Ok x) e h = cc
checked_err (Err f) e h = cc

-- ---- names
none_of : {X : Type 0} (o : Option X) → is_some o ≡ false → o ≡ None
none_of None e = refl
none_of (Some x) e = absurd (true≢false e)

one_answer : {A : Type 0} (p q : A) (r : Result A Stop) → r ≡ Ok p → r ≡ Ok q → q ≡ p
one_answer p q r is e = cc

named_by : (r : Result Datum Stop) (n : List ℕ) (ty : Ty) (y : List ℕ × Datum) → and_then r (typed_field n ty) ≡ Ok y → y.0 ≡ n
named_by (Ok d) n ty y e = by (is_eq (ty_order (type_of d) ty)) e
  where
    by : (b : Bool) → (if b then Ok (n, d) else Err Untyped) ≡ Ok y → y.0 ≡ n
    by true h = ap (λ x. x.0) (one_answer (n, d) y (Ok (n, d)) refl h)
    by false h = cc
named_by (Err f) n ty y e = cc

ok_from : {A B : Type 0} (f : A → B) (r : Result A Stop) (u : B) → and_then r (λ a. Ok (f a)) ≡ Ok u → (a : A) × (r ≡ Ok a) × (u ≡ f a)
ok_from f (Ok a) u e = (a, refl, let q : u ≡ f a = cc in q)
ok_from f (Err g) u e = cc

module _ {E : Type 0} (m : TermMeaning E) (h : Header) (t : Attrs) where
  none_found : (items : List (Item E)) → AreNew h items → (fs : List (List ℕ × Datum)) → fields_at m items t ≡ Ok fs → (n : List ℕ) → is_in (names_of h) n ≡ true → by_name.find text_cmp n fs ≡ None
  none_found [] new fs e n has = let none : fs ≡ [] = cc in ap (by_name.find text_cmp n) none
  none_found (i ∷ is) new fs e n has =
      let (y, zs, one, rest, same) = ok_split (field_at m t) i is fs e in
      let name = named_by (m i.term t) i.name i.ty y one in
      let later = none_found is (λ k d lt. new (suc k) d (omega arith)) zs rest n has in
      ap (by_name.find text_cmp n) same ∙ elim (eq_by_cmp text_cmp n y.0) as (λ b. eq_by_cmp text_cmp n y.0 ≡ b → cond b (Some y.1) (by_name.find text_cmp n zs) ≡ None) [
        | true ↦ λ tied. absurd (true≢false (sym has ∙ ap (is_in (names_of h)) (same_name n y.0 (is_tied (text_cmp n y.0) tied) ∙ name) ∙ all_in (λ j. is_in (names_of h) j.name ≡ false) (i ∷ is) new i (inl refl)))
        | false ↦ λ other. later
      ] refl

  -- the old tuple is the part at the old names
  old_part : (items : List (Item E)) → AreNew h items → Fits h t → (u : Attrs) → extended_at m items t ≡ Ok u → cut (names_of h) u ≡ t
  old_part items new f u e =
      let (fs, found, is) = ok_from (λ fs. beside (tuple_of fs) t) (fields_at m items t) u e in
      let w = beside (tuple_of fs) t in
      let by : (n : List ℕ) (b : Bool) → is_in (names_of h) n ≡ b → cond b (attribute_of n w) None ≡ attribute_of n t = λ n b. elim b as (λ b. is_in (names_of h) n ≡ b → cond b (attribute_of n w) None ≡ attribute_of n t) [
        | true ↦ λ has. attribute-beside (tuple_of fs) t n ∙ ap (λ o. or_else o (attribute_of n t)) (attribute-tuple_of fs n ∙ none_found items new fs found n has)
        | false ↦ λ lacks. sym (none_of (attribute_of n t) (sym (fits_named h t f n) ∙ lacks))
      ] in
      ap (cut (names_of h)) is
      ∙ same_tuple _ t (sorted-where (is_in (names_of h)) w (sorted-tuple_of _)) (fits_sorted h t f) (λ n. attribute-where (is_in (names_of h)) w n ∙ by n (is_in (names_of h) n) refl)

module _ {E : Type 0} (m : TermMeaning E) (items : List (Item E)) (h : Header) (new : AreNew h items) where
  extended_distinct : (ts us : List Attrs) → All (Fits h) ts → AreDistinct ts → all_of (extended_at m items) ts ≡ Ok us → AreDistinct us × (length us ≡ length ts)
  extended_distinct [] us fit d e = let none : us ≡ [] = cc in (subst AreDistinct (sym none) tt, ap length none)
  extended_distinct (t ∷ ts) us fit d e =
      let (y, zs, one, rest, same) = ok_split (extended_at m items) t ts us e in
      let later = extended_distinct ts zs (λ k g lt. fit (suc k) g (omega arith)) d.1 rest in
      let back = old_part m h t items new (all_in (Fits h) (t ∷ ts) fit t (inl refl)) y one in
      let apart : In y zs → ⊥ = λ there.
      let (s, in_, gives) = answers_from (extended_at m items) ts zs y rest (in_contains zs y there) in
      let among = contains_in ts s in_ in
      let fits = all_in (Fits h) (t ∷ ts) fit s (inr among) in
      d.0 (subst (λ z. In z ts) (sym (old_part m h s items new fits y gives) ∙ back) among)
      in (
        subst AreDistinct (sym same) (apart, later.0),
        ap length same ∙ ap suc later.1,
      )

  module _ (r : RowsData) (e : r.heading ≡ h) (rows : AreRows r.heading r.tuples) where
    pub new_length : (us : List Attrs) → all_of (extended_at m items) r.tuples ≡ Ok us → IsLengthOf (extended_columns items r.heading) (Extended m items r) (length r.tuples)
    new_length us all =
        let fit = subst (λ k. All (Fits k) r.tuples) e rows.fit in
        let (distinct, many) = extended_distinct r.tuples us fit (ascending_distinct r.tuples rows.ascending) all in
        subst (IsLengthOf (extended_columns items r.heading) (Extended m items r)) many (length_of_list (extended_columns items r.heading) (Extended m items r) us distinct (are_extended m items r us all))

    pub new_counted : checked (all_of (extended_at m items) r.tuples) ≡ Ok tt → ((d : Stop) → RaisedBy m items r d → ⊥) × IsLengthOf (extended_columns items r.heading) (Extended m items r) (length r.tuples)
    new_counted all =
        let (xs, is) = checked_ok (all_of (extended_at m items) r.tuples) all in
        (none_raised m items r xs is, new_length xs is)

module _ {E : Type 0} (m : TermMeaning E) (items : List (Item E)) (r : RowsData) where
  pub check_fails : {W : Type 0} (P : ℕ → Type 0) (f : Fault W) → Answers {A = Unit {0}} (Err f) (checked (all_of (extended_at m items) r.tuples)) → Unless (RaisedBy m items r) P (Err f)
  check_fails P OutOfMemory all = tt
  check_fails P (Wanting w) all = tt
  check_fails {W = W} P (Raised d) all =
      let raised = checked_err (all_of (extended_at m items) r.tuples) d all in
      extension_fails m items r {W = W} (λ (us : List Attrs). us) (λ _. Unit {0}) (Raised d) raised
