-- What is stored, place by place.
use Rattle.std.proofs.Common.{◌≡◌, ⊎_elim, ℕ, zero, suc, pred, ◌+◌, ◌<◌, ◌≤◌, true, false, true≢false, List, [], ◌∷◌, ◌++◌, append_assoc, append-nil, length, drop, Option, None, Some, Result, Ok, slice_get, refl, ap, sym, ◌∙◌, subst, arith}
use Rattle.std.specs.FinSet as set
use Rattle.std.specs.Prelude.{slice_set}
use Rattle.std.proofs.lemmas.List.Elements.{All-weaker}
use Rattle.std.specs.List.{All}
use Rattle.std.specs.List.Sorted.{IsStrictlySortedBy}
use Rattle.std.specs.Option.{option_flatten}
use Rattle.std.proofs.lemmas.Bool.{cases_eq}
use Rattle.std.proofs.lemmas.List.{drop_all}
use Rattle.td_values.specs.Headings.{Header}
use Rattle.td_values.specs.Rows.{RowsData}
use Rattle.td_syntax.specs.declared.tree.Named.{Named}
use Rattle.td_schema.specs.Schemas.{SchemaData}
use Rattle.td_relations.specs.Sets.{ascending, relation_of}
use Rattle.td_relations.proofs.Members.{tuples_are}
use Rattle.td_typing.proofs.KindLemmas.{some_same}
use Rattle.td_algebra.specs.KeyIndexes.{AreKeyIndexes, IsKeyIndex, KeyIndexData}
use Rattle.td_algebra.specs.declared.errors.Stop.{Stop}
use Rattle.td_headings.specs.Catalogues.{CatalogueData}
use Rattle.td_headings.specs.Definitions.{Defined}
use Rattle.td_headings.specs.Reached.{is_base}
use Rattle.td_headings.specs.declared.defined.Origin.{Origin}
use Rattle.td_headings.specs.declared.defined.Origin.TheVariants as origin
use Rattle.td_headings.proofs.WellTyped.{all_typed}
use Rattle.td_type_soundness.specs.Meanings.{IsTupleOver, IsRelationOver}
use Rattle.td_semantics.specs.Trees.{AreBases}
use Rattle.td_semantics.specs.Stored.{AreStored}
use Rattle.td_eval.specs.Keyed.{AreByKeys, IsByKey}
use Rattle.td_integrity.proofs.Judged.{are_bases}
use Rattle.td_semantics.specs.Databases.{Stored, DatabaseData, IsDatabase, Belongs, at_place, with_relation, stored_relvars}
use Rattle.td_semantics.specs.Openings.{all_empty}
use Rattle.td_relvars.specs.ForProofs.Empty.{empty_in}

-- ---- places
pub base_within : (os : List Origin) (n : ℕ) → is_base (slice_get os n) ≡ true → n < length os
base_within [] n h = cc
base_within (o ∷ os) zero h = omega arith
base_within (o ∷ os) (suc n) h = let lt = base_within os n h in omega (arith, lt)

pub put_set : (n : ℕ) (r : RowsData) (xs : Stored) → slice_set xs n (Some r) ≡ with_relation n r xs
put_set n r [] = refl
put_set zero r (x ∷ xs) = refl
put_set (suc n) r (x ∷ xs) = ap (λ ys. x ∷ ys) (put_set n r xs)

pub put_length : (n : ℕ) (r : RowsData) (xs : Stored) → length (with_relation n r xs) ≡ length xs
put_length n r [] = refl
put_length zero r (x ∷ xs) = refl
put_length (suc n) r (x ∷ xs) = ap suc (put_length n r xs)

pub put_there : (n : ℕ) (r : RowsData) (xs : Stored) → n < length xs → slice_get (with_relation n r xs) n ≡ Some (Some r)
put_there n r [] lt = absurd (omega arith)
put_there zero r (x ∷ xs) lt = refl
put_there (suc n) r (x ∷ xs) lt = put_there n r xs (omega arith)

pub put_other : (n m : ℕ) (r : RowsData) (xs : Stored) → (n ≡ m → ⊥) → slice_get (with_relation n r xs) m ≡ slice_get xs m
put_other n m r [] apart = refl
put_other zero zero r (x ∷ xs) apart = absurd (apart refl)
put_other zero (suc m) r (x ∷ xs) apart = refl
put_other (suc n) zero r (x ∷ xs) apart = refl
put_other (suc n) (suc m) r (x ∷ xs) apart = put_other n m r xs (λ e. apart (ap suc e))

-- ---- one relation in place of another
module _ (c : CatalogueData) (stored : Stored) (is : IsDatabase (record { catalogue = c; stored = stored })) (n : ℕ) (r : RowsData) (b : Belongs c n r) where
  pub place_within : n < length stored
  place_within = let lt = base_within c.origins n b.stored in let each = is.each in omega (arith, lt, each)

  here : (v : Named Header) → slice_get c.schema.relvars n ≡ Some v → IsRelationOver c.schema v.value r
  here v at = subst (λ (w : Named Header). IsRelationOver c.schema w.value r) (some_same b.relvar v (sym b.there ∙ at)) b.relation

  abbrev HasOne : ℕ → Named Header → Type 0
  HasOne m v = (q : RowsData) × (stored_relvars (with_relation n r stored) m ≡ Ok q) × IsRelationOver c.schema v.value q

  all_have : AreStored c (stored_relvars (with_relation n r stored))
  all_have m v base at = ⊎_elim
      (λ same. subst (λ k. HasOne k v) same (r, ap at_place (put_there n r stored place_within), here v (subst (λ k. slice_get c.schema.relvars k ≡ Some v) (sym same) at)))
      (λ apart. let k = is.stored m v base at in (k.0, ap at_place (put_other n m r stored apart) ∙ k.1, k.2))
      (cases_eq n m)

  pub put_is : IsDatabase (record { catalogue = c; stored = with_relation n r stored })
  put_is = record {
    defined = is.defined;
    each = put_length n r stored ∙ is.each;
    stored = all_have;
    nothing_else = λ m virtual. ap option_flatten (put_other n m r stored (λ same. true≢false (sym b.stored ∙ ap (λ k. is_base (slice_get c.origins k)) same ∙ virtual))) ∙ is.nothing_else m virtual;
  }

-- ---- empty relvars
no_tuples : ascending set.empty ≡ []
unfolding IsStrictlySortedBy
no_tuples = sym (tuples_are [] set.empty tt refl)

empty_is : (s : SchemaData) (h : Header) → IsRelationOver s h (relation_of h set.empty)
empty_is s h = record {
  heading = refl;
  tuples = subst (All (IsTupleOver s h)) (sym no_tuples) (λ k d lt. absurd (omega arith));
}

empty_length : (os : List Origin) (rs : List (Named Header)) → length os ≡ length rs → length (all_empty os rs) ≡ length os
empty_length [] rs e = refl
empty_length (o ∷ os) [] e = cc
empty_length (o ∷ os) (r ∷ rs) e = ap suc (empty_length os rs (ap pred e))

empty_there : (os : List Origin) (rs : List (Named Header)) (n : ℕ) (v : Named Header) → is_base (slice_get os n) ≡ true → slice_get rs n ≡ Some v → slice_get (all_empty os rs) n ≡ Some (Some (relation_of v.value set.empty))
empty_there [] rs n v base at = cc
empty_there (o ∷ os) [] n v base at = cc
empty_there (origin.Base ks u ∷ os) (r ∷ rs) zero v base at = ap (λ (w : Named Header). Some (Some (relation_of w.value set.empty))) (some_same r v at)
empty_there (origin.Virtual u ∷ os) (r ∷ rs) zero v base at = cc
empty_there (o ∷ os) (r ∷ rs) (suc n) v base at = empty_there os rs n v base at

none_virtual : (os : List Origin) (rs : List (Named Header)) (n : ℕ) → is_base (slice_get os n) ≡ false → option_flatten (slice_get (all_empty os rs) n) ≡ None
none_virtual [] rs n virtual = refl
none_virtual (o ∷ os) [] n virtual = refl
none_virtual (origin.Base ks u ∷ os) (r ∷ rs) zero virtual = cc
none_virtual (origin.Virtual u ∷ os) (r ∷ rs) zero virtual = refl
none_virtual (o ∷ os) (r ∷ rs) (suc n) virtual = none_virtual os rs n virtual

pub empty_database : (c : CatalogueData) → Defined c → IsDatabase (record { catalogue = c; stored = all_empty c.origins c.schema.relvars })
empty_database c defined = record {
  defined = defined;
  each = empty_length c.origins c.schema.relvars (all_typed c defined).origin_each;
  stored = λ n v base at. (relation_of v.value set.empty, ap at_place (empty_there c.origins c.schema.relvars n v base at), empty_is c.schema v.value);
  nothing_else = none_virtual c.origins c.schema.relvars;
}

-- the places that are left
pub empty_next : (os : List Origin) (rs : List (Named Header)) (n : ℕ) → n < length os → length os ≡ length rs → all_empty (drop n os) (drop n rs) ≡ empty_in (slice_get os n) (slice_get rs n) ∷ all_empty (drop (suc n) os) (drop (suc n) rs)
empty_next [] rs n lt e = absurd (omega arith)
empty_next (o ∷ os) [] n lt e = cc
empty_next (o ∷ os) (r ∷ rs) zero lt e = refl
empty_next (o ∷ os) (r ∷ rs) (suc n) lt e = empty_next os rs n (omega arith) (ap pred e)

module _ (os : List Origin) (rs : List (Named Header)) (n : ℕ) (each : length os ≡ length rs) where
  pub empty_more : (done new : Stored) (b : Option RowsData) → n < length rs → new ≡ done ++ b ∷ [] → b ≡ empty_in (slice_get os n) (slice_get rs n) → all_empty os rs ≡ done ++ all_empty (drop n os) (drop n rs) → all_empty os rs ≡ new ++ all_empty (drop (n + 1) os) (drop (n + 1) rs)
  empty_more done new b lt is at h =
      let one : suc n ≡ n + 1 = omega arith in
      h
      ∙ ap (λ l. done ++ l) (empty_next os rs n (omega arith) each)
      ∙ ap (λ k. done ++ empty_in (slice_get os n) (slice_get rs n) ∷ all_empty (drop k os) (drop k rs)) one
      ∙ sym (append_assoc done (empty_in (slice_get os n) (slice_get rs n) ∷ []) (all_empty (drop (n + 1) os) (drop (n + 1) rs)))
      ∙ ap (λ l. l ++ all_empty (drop (n + 1) os) (drop (n + 1) rs)) (sym (is ∙ ap (λ q. done ++ q ∷ []) at))

  pub empty_done : (done : Stored) → length rs ≤ n → all_empty os rs ≡ done ++ all_empty (drop n os) (drop n rs) → done ≡ all_empty os rs
  empty_done done all h =
      let none = ap (λ l. all_empty l (drop n rs)) (drop_all n os (omega arith)) in
      sym (h ∙ ap (λ l. done ++ l) none ∙ append-nil done)

-- ---- what is looked up
pub bases : (d : DatabaseData) → IsDatabase d → AreBases d.catalogue (stored_relvars d.stored)
bases d is = are_bases d.catalogue (stored_relvars d.stored) is.stored

pub looked_up : (o : Option (Option RowsData)) (r : RowsData) → option_flatten o ≡ Some r → at_place o ≡ Ok r
looked_up None r h = cc
looked_up (Some None) r h = cc
looked_up (Some (Some q)) r h = ap Ok (some_same q r h)

pub not_stored : {P : Type 0} (o : Option (Option RowsData)) (r : RowsData) → at_place o ≡ Ok r → option_flatten o ≡ None → P
not_stored None r h e = cc
not_stored (Some None) r h e = cc
not_stored (Some (Some q)) r h e = cc

-- tuples by keys are lent of the relation that is there
pub lends : (m : Result RowsData Stop) (r : RowsData) → m ≡ Ok r → (xs : List KeyIndexData) → AreKeyIndexes r xs → AreByKeys m xs
lends m r has xs are = All-weaker (λ (x : KeyIndexData). IsKeyIndex x.key r x) (λ (x : KeyIndexData). IsByKey m x.key x) (λ x is. (r, has, is)) xs are
