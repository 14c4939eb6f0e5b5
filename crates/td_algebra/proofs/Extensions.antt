-- Extension: what items raise and give at the tuples of a relation.
use Rattle.std.proofs.Common.{◌≡◌, ◌↔◌, ◌≤◌, ℕ, Bool, true, false, IsTrue, List, Result, Ok, Err, refl, sym, ap, ◌∙◌, subst, arith}
use Rattle.std.specs.FinSet as set
use Rattle.std.specs.List.{Contains}
use Rattle.td_algebra.specs.declared.errors.Stop.{Stop}
use Rattle.td_algebra.specs.Stops.{stop_number}
use Rattle.td_values.specs.Data.{Ty, Datum, Attrs}
use Rattle.td_values.specs.Order.{ty_order}
use Rattle.td_values.specs.Proving.Total.{ty_tied, ty_order_total}
use Rattle.std.specs.Cmp.{tied_itself}
use Rattle.std.specs.declared.cmp.Ordering.{Ordering}
use Rattle.std.specs.declared.cmp.Ordering.TheVariants.{Less, Equal, Greater}
use Rattle.std.specs.Ordering.{is_eq}
use Rattle.td_values.specs.Headings.{Header}
use Rattle.td_values.specs.Rows.{RowsData}
use Rattle.td_relations.specs.Sets.{IsRelation, IsRelationOf}
use Rattle.td_relations.proofs.Members.{has_listed}
use Rattle.td_relations.proofs.Predicates.{by_list}
use Rattle.td_tuples.specs.Unions.{beside, tuple_of}
use Rattle.td_algebra.specs.declared.errors.Fault.{Fault}
use Rattle.td_algebra.specs.declared.errors.Fault.TheVariants.{Raised, OutOfMemory, Wanting}
use Rattle.td_tuples.specs.declared.items.Item.{Item}
use Rattle.td_algebra.specs.Raising.{AnswersBy, Unless, UnlessRaised, all_of, and_then}
use Rattle.td_algebra.specs.Extending.{TermMeaning, field_at, fields_at, extended_at, Extended, RaisedBy}
use Rattle.td_algebra.proofs.Walks.{Tells, tells, answers_from, answers_there}

-- the test of a type
is_self : (s : Ty) → is_eq (ty_order s s) ≡ true
is_self s = ap is_eq (tied_itself ty_order_total s)

same_type_by : (s t : Ty) (o : Ordering) (b : Bool) → ty_order s t ≡ o → IsTrue b ↔ (s ≡ t) → is_eq o ≡ b
same_type_by s t Equal true e same = refl
same_type_by s t Equal false e same = sym (same.1 (ty_tied s t e))
same_type_by s t Less true e same = sym (ap is_eq e) ∙ ap (λ x. is_eq (ty_order s x)) (sym (same.0 refl)) ∙ is_self s
same_type_by s t Less false e same = refl
same_type_by s t Greater true e same = sym (ap is_eq e) ∙ ap (λ x. is_eq (ty_order s x)) (sym (same.0 refl)) ∙ is_self s
same_type_by s t Greater false e same = refl

pub same_type : (s t : Ty) (b : Bool) → IsTrue b ↔ (s ≡ t) → is_eq (ty_order s t) ≡ b
same_type s t b same = same_type_by s t (ty_order s t) b refl same

module _ {A B : Type 0} (f : A → B) where
  err_from : (a : Result A Stop) (e : Stop) → and_then a (λ x. Ok (f x)) ≡ Err e → a ≡ Err e
  err_from (Ok x) e h = cc
  err_from (Err d) e h = cc

  err_to : (a : Result A Stop) (e : Stop) → a ≡ Err e → and_then a (λ x. Ok (f x)) ≡ Err e
  err_to (Ok x) e h = cc
  err_to (Err d) e h = cc

module _ {E : Type 0} (m : TermMeaning E) (items : List (Item E)) where
  -- the error of a tuple is that of an item
  raised_at : (t : Attrs) (e : Stop) → extended_at m items t ≡ Err e → (i : Item E) × Contains items i × (field_at m t i ≡ Err e)
  raised_at t e h =
      let all = err_from (λ fs. beside (tuple_of fs) t) (fields_at m items t) e h in
      let (found, least) = subst (Tells (field_at m t) items) all (tells (field_at m t) items) in
      found

  seen_by : (i : Item E) (t : Attrs) (f : Stop) (r : Result (List (List ℕ × Datum)) Stop) → fields_at m items t ≡ r → Tells (field_at m t) items r → Contains items i → field_at m t i ≡ Err f → (e : Stop) × (fields_at m items t ≡ Err e) × (stop_number e ≤ stop_number f)
  seen_by i t f (Ok fs) is none there raises = absurd (none i there f raises)
  seen_by i t f (Err e) is (found, least) there raises = (e, is, least i there f raises)

  -- where an item raises, the tuple has that error or a lesser one
  raise_seen : (i : Item E) (t : Attrs) (f : Stop) → Contains items i → field_at m t i ≡ Err f → (e : Stop) × (extended_at m items t ≡ Err e) × (stop_number e ≤ stop_number f)
  raise_seen i t f there raises =
      let (e, is, least) = seen_by i t f (fields_at m items t) refl (tells (field_at m t) items) there raises in
      (e, err_to (λ fs. beside (tuple_of fs) t) (fields_at m items t) e is, least)

  module _ (r : RowsData) where
    pub extension_fails : {V W : Type 0} (see : V → List Attrs) (P : RowsData → Type 0) (f : Fault W) → AnswersBy see (Err f) (all_of (extended_at m items) r.tuples) → Unless (RaisedBy m items r) P (Err f)
    extension_fails see P OutOfMemory all = tt
    extension_fails see P (Wanting w) all = tt
    extension_fails see P (Raised e) all =
        let (found, least) = subst (Tells (extended_at m items) r.tuples) all (tells (extended_at m items) r.tuples) in
        let (i, there, raises) = raised_at found.0 e found.2 in (
          (i, found.0, there, (has_listed r found.0).1 found.1, raises),
          λ f (j, t, in_, has, k).
              let (d, is, below) = raise_seen j t f in_ k in
              let first = least t ((has_listed r t).0 has) d is in
              omega (arith, first, below),
        )

    pub none_raised : (us : List Attrs) → all_of (extended_at m items) r.tuples ≡ Ok us → (e : Stop) → RaisedBy m items r e → ⊥
    none_raised us all e (j, t, in_, has, k) =
        let (d, raised, below) = raise_seen j t e in_ k in
        subst (Tells (extended_at m items) r.tuples) all (tells (extended_at m items) r.tuples) t ((has_listed r t).0 has) d raised

    pub are_extended : (us : List Attrs) → all_of (extended_at m items) r.tuples ≡ Ok us → (u : Attrs) → Contains us u ↔ Extended m items r u
    are_extended us all u = (
      λ there. let (t, in_, gives) = answers_from (extended_at m items) r.tuples us u all there in (t, (has_listed r t).1 in_, gives),
      λ (t, has, gives). answers_there (extended_at m items) r.tuples us t u all ((has_listed r t).0 has) gives,
    )

    pub extends : (h : Header) (us : List Attrs) (s : RowsData) → all_of (extended_at m items) r.tuples ≡ Ok us → IsRelation h (set.from_list us) s → UnlessRaised (RaisedBy m items r) (IsRelationOf h (Extended m items r)) (Ok s)
    extends h us s all is = (none_raised us all, by_list h us (Extended m items r) s is (are_extended us all))
