-- What is put behind the others, by the fields of a catalogue.
use Rattle.std.proofs.Common.{◌≡◌, ℕ, zero, suc, Bool, true, false, not, List, [], ◌∷◌, ◌++◌, map, length, Option, Some, None, is_none, slice_get, Result, Ok, Err, refl, sym, ap, ◌∙◌}
use Rattle.td_values.specs.Headings.{Header}
use Rattle.td_syntax.specs.declared.tree.Attributes.{Attributes}
use Rattle.td_syntax.specs.declared.script.Opening.{Opening}
use Rattle.td_schema.specs.declared.error.TypeError.{TypeError}
use Rattle.td_schema.specs.declared.error.TypeError.TheVariants.{IllTyped, OutOfMemory}
use Rattle.td_schema.specs.Kinds.{Name}
use Rattle.td_schema.specs.Results.{Fails, where_some, where_true}
use Rattle.std.specs.Result.{OnOk}
use Rattle.std.specs.List.{list_any}
use Rattle.td_schema.specs.declared.schema.Representation.{Representation}
use Rattle.td_schema.specs.Schemas.{SchemaData, relvar_named}
use Rattle.td_schema.specs.ForProofs.Additions.{relvar_added, may_add, type_added}
use Rattle.td_typed_trees.specs.declared.tree.Typed.{Typed}
use Rattle.td_headings.specs.Catalogues.{CatalogueData}
use Rattle.td_headings.specs.Definitions.{is_constraint, with_constraint, with_relvar, with_type, key_tests}
use Rattle.td_headings.specs.ForProofs.After.{opening_after, keys_after, relvar_after, possrep_after, named_after, base_after}
use Rattle.td_headings.specs.ForProofs.Changes.{Changes}
use Rattle.td_headings.specs.declared.defined.Origin.{Origin}
use Rattle.td_headings.specs.declared.defined.Origin.TheVariants as origin
use Rattle.td_headings.specs.declared.defined.Test.{Test}
use Rattle.td_headings.specs.declared.defined.Test.TheVariants as test

some_same : {A : Type 0} (a b : A) → Some a ≡ Some b → a ≡ b
some_same a b h = cc

-- what stands at a place of a list with one more stands there before it, or is the last
pub front_or_last : {A P : Type 0} (xs : List A) (y : A) (n : ℕ) (z : A) → slice_get (xs ++ y ∷ []) n ≡ Some z → (slice_get xs n ≡ Some z → P) → (n ≡ length xs → y ≡ z → P) → P
front_or_last [] y zero z h front last = last refl (some_same y z h)
front_or_last [] y (suc n) z h front last = cc
front_or_last (x ∷ xs) y zero z h front last = front h
front_or_last (x ∷ xs) y (suc n) z h front last = front_or_last xs y n z h front (λ e. last (ap suc e))

tested : {A : Type 0} (b : Bool) (a y : A) → where_true b a ≡ Some y → (b ≡ true) × (a ≡ y)
tested true a y h = (refl, some_same a y h)
tested false a y h = cc

refused : {A : Type 0} (b : Bool) (a : A) → where_true b a ≡ None → b ≡ false
refused true a h = cc
refused false a h = refl

goes : {A B : Type 0} (o : Option A) (a : A) (f : A → Option B) → o ≡ Some a → where_some o f ≡ f a
goes o a f h = ap (λ x. where_some x f) h

module _ (s : SchemaData) (limits : List (Option Typed)) (origins : List Origin) (tests : List Test) (c : CatalogueData) (seen : record { schema = s; limits = limits; origins = origins; tests = tests } ≡ c) (n : Name) (h : Header) (o : Origin) (ts : List Test) where
  abbrev more : SchemaData
  more = record { possreps = s.possreps; relvars = s.relvars ++ record { name = n; value = h } ∷ [] }

  relvar_put : (b : Bool) → is_none (relvar_named s n) ≡ b → relvar_after c n h o ts ≡ where_true b (record { schema = more; limits = limits; origins = origins ++ o ∷ []; tests = tests ++ ts })
  unfolding relvar_after
  relvar_put b e =
      ap (λ (d : CatalogueData). where_true (is_none (relvar_named d.schema n)) (with_relvar d n h o ts)) (sym seen)
      ∙ ap (λ t. where_true t (record { schema = more; limits = limits; origins = origins ++ o ∷ []; tests = tests ++ ts })) e

  pub put_taken : (t : SchemaData) (os : List Origin) (us : List Test) → relvar_added s n h ≡ Some t → os ≡ origins ++ o ∷ [] → us ≡ tests ++ ts → relvar_after c n h o ts ≡ Some (record { schema = t; limits = limits; origins = os; tests = us })
  put_taken t os us e p q =
      let d = tested (is_none (relvar_named s n)) more t e in
      relvar_put true d.0 ∙ ap Some (λ i. record { schema = d.1 i; limits = limits; origins = sym p i; tests = sym q i })

  pub put_refused : (e : TypeError) → (◌≡◌ {A = Result (Unit {0}) TypeError} (Err e) (Err IllTyped) → relvar_added s n h ≡ None) → Fails e (relvar_after c n h o ts)
  put_refused OutOfMemory f = tt
  put_refused IllTyped f = relvar_put false (refused (is_none (relvar_named s n)) more (f refl))

  pub still_seen : (t : SchemaData) (os : List Origin) (us : List Test) → t ≡ s → os ≡ origins → us ≡ tests → record { schema = t; limits = limits; origins = os; tests = us } ≡ c
  still_seen t os us p q r = (λ i. record { schema = p i; limits = limits; origins = q i; tests = r i }) ∙ seen

module _ (c : CatalogueData) (n m : Name) (is : m ≡ n) where
  pub base_put : (o : Opening) (as' : List Attributes) (h : Header) (u : Option Typed) (ks : List (List Name)) (l : ℕ) (ts : List Test) → opening_after c.schema o ≡ Some (h, u) → keys_after h as' ≡ Some ks → ts ≡ map (test.Key l) ks → l ≡ length c.origins → base_after c n o as' ≡ relvar_after c m h (origin.Base ks u) ts
  unfolding base_after
  base_put o as' h u ks l ts p q r e =
      goes (opening_after c.schema o) (h, u) (λ v. where_some (keys_after v.0 as') (λ ls. relvar_after c n v.0 (origin.Base ls v.1) (key_tests c ls))) p
      ∙ goes (keys_after h as') ks (λ ls. relvar_after c n h (origin.Base ls u) (key_tests c ls)) q
      ∙ (λ i. relvar_after c (sym is i) h (origin.Base ks u) (sym (r ∙ ap (λ k. map (test.Key k) ks) e) i))

module _ (s : SchemaData) (limits : List (Option Typed)) (origins : List Origin) (tests : List Test) (c : CatalogueData) (seen : record { schema = s; limits = limits; origins = origins; tests = tests } ≡ c) (r : Representation) (u : Option Typed) where
  abbrev also : SchemaData
  also = record { possreps = s.possreps ++ r ∷ []; relvars = s.relvars }

  type_put : (b : Bool) → may_add s r ≡ b → possrep_after c r u ≡ where_true b (record { schema = also; limits = limits ++ u ∷ []; origins = origins; tests = tests })
  unfolding possrep_after
  type_put b e =
      ap (λ (d : CatalogueData). where_true (may_add d.schema r) (with_type d r u)) (sym seen)
      ∙ ap (λ t. where_true t (record { schema = also; limits = limits ++ u ∷ []; origins = origins; tests = tests })) e

  pub type_taken : (t : SchemaData) (ls : List (Option Typed)) → type_added s r ≡ Some t → ls ≡ limits ++ u ∷ [] → possrep_after c r u ≡ Some (record { schema = t; limits = ls; origins = origins; tests = tests })
  type_taken t ls e p =
      let d = tested (may_add s r) also t e in
      type_put true d.0 ∙ ap Some (λ i. record { schema = d.1 i; limits = sym p i; origins = origins; tests = tests })

  pub type_refused : (e : TypeError) → (◌≡◌ {A = Result (Unit {0}) TypeError} (Err e) (Err IllTyped) → type_added s r ≡ None) → Fails e (possrep_after c r u)
  type_refused OutOfMemory f = tt
  type_refused IllTyped f = type_put false (refused (may_add s r) also (f refl))

  pub still_typed : (t : SchemaData) (ls : List (Option Typed)) → t ≡ s → ls ≡ limits → record { schema = t; limits = ls; origins = origins; tests = tests } ≡ c
  still_typed t ls p q = (λ i. record { schema = p i; limits = q i; origins = origins; tests = tests }) ∙ seen

module _ (s : SchemaData) (limits : List (Option Typed)) (origins : List Origin) (tests : List Test) (c : CatalogueData) (seen : record { schema = s; limits = limits; origins = origins; tests = tests } ≡ c) (n : Name) (u : Typed) where
  name_put : (b : Bool) → list_any (is_constraint n) tests ≡ b → named_after c n u ≡ where_true (not b) (record { schema = s; limits = limits; origins = origins; tests = tests ++ test.Constraint n u ∷ [] })
  unfolding named_after
  name_put b e =
      ap (λ (d : CatalogueData). where_true (not (list_any (is_constraint n) d.tests)) (with_constraint d n u)) (sym seen)
      ∙ ap (λ t. where_true (not t) (record { schema = s; limits = limits; origins = origins; tests = tests ++ test.Constraint n u ∷ [] })) e

  pub name_taken : (us : List Test) → list_any (is_constraint n) tests ≡ false → us ≡ tests ++ test.Constraint n u ∷ [] → named_after c n u ≡ Some (record { schema = s; limits = limits; origins = origins; tests = us })
  name_taken us e q = name_put false e ∙ ap (λ ts. Some (record { schema = s; limits = limits; origins = origins; tests = ts })) (sym q)

  pub name_refused : (e : TypeError) → (◌≡◌ {A = Result (Unit {0}) TypeError} (Err e) (Err IllTyped) → list_any (is_constraint n) tests ≡ true) → Fails e (named_after c n u)
  name_refused OutOfMemory f = tt
  name_refused IllTyped f = name_put true (f refl)

  pub still_named : (us : List Test) → us ≡ tests → record { schema = s; limits = limits; origins = origins; tests = us } ≡ c
  still_named us r = (λ i. record { schema = s; limits = limits; origins = origins; tests = r i }) ∙ seen

-- ---- what a change tells
pub taken : {A : Type 0} (old new : A) (o : Option A) (P : Type 0) (r : Result (Unit {0}) TypeError) → Changes old o r new → (o ≡ Some new → P) → OnOk r P
taken old new o P (Ok u) h f = f h
taken old new o P (Err e) h f = tt

pub ill_typed : {A : Type 0} (old new : A) (o : Option A) (r : Result (Unit {0}) TypeError) → Changes old o r new → r ≡ Err IllTyped → o ≡ None
ill_typed old new o (Ok u) h e = cc
ill_typed old new o (Err OutOfMemory) h e = cc
ill_typed old new o (Err IllTyped) h e = h.0
