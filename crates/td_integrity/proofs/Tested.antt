-- The test of a key is one of a base relvar.
use Rattle.std.proofs.Common.{◌≡◌, ℕ, zero, suc, true, List, [], ◌∷◌, ◌++◌, map, length, Some, slice_get, refl, ap, ◌∙◌, subst}
use Rattle.td_values.specs.Headings.{Header}
use Rattle.td_syntax.specs.declared.script.Definition.{Definition}
use Rattle.td_syntax.specs.declared.tree.Named.{Named}
use Rattle.td_schema.specs.Kinds.{Name}
use Rattle.td_typing.proofs.KindLemmas.{some_same}
use Rattle.td_headings.specs.Catalogues.{CatalogueData}
use Rattle.td_headings.specs.Definitions.{with_relvar, Defines, type_, base, virtual, constraint, Defined, nothing_yet, next_definition}
use Rattle.td_headings.specs.Reached.{is_base}
use Rattle.td_headings.specs.declared.defined.Origin.{Origin}
use Rattle.td_headings.specs.declared.defined.Origin.TheVariants as origin
use Rattle.td_headings.specs.declared.defined.Test.{Test}
use Rattle.td_headings.specs.declared.defined.Test.TheVariants as test
use Rattle.td_headings.proofs.WellTyped.{all_typed}
use Rattle.td_integrity.specs.ForProofs.Tested.{HasRelvar}

-- ---- places in lists
stays : {A : Type 0} (xs ys : List A) (n : ℕ) (z : A) → slice_get xs n ≡ Some z → slice_get (xs ++ ys) n ≡ Some z
stays [] ys n z h = cc
stays (x ∷ xs) ys zero z h = h
stays (x ∷ xs) ys (suc n) z h = stays xs ys n z h

base_stays : (os ps : List Origin) (n : ℕ) → is_base (slice_get os n) ≡ true → is_base (slice_get (os ++ ps) n) ≡ true
base_stays [] ps n h = cc
base_stays (o ∷ os) ps zero h = h
base_stays (o ∷ os) ps (suc n) h = base_stays os ps n h

last : {A : Type 0} (xs : List A) (y : A) → slice_get (xs ++ y ∷ []) (length xs) ≡ Some y
last [] y = refl
last (x ∷ xs) y = last xs y

either : {A P : Type 0} (xs ys : List A) (n : ℕ) (z : A) → slice_get (xs ++ ys) n ≡ Some z → (slice_get xs n ≡ Some z → P) → ((m : ℕ) → slice_get ys m ≡ Some z → P) → P
either [] ys n z h front behind = behind n h
either (x ∷ xs) ys zero z h front behind = front h
either (x ∷ xs) ys (suc n) z h front behind = either xs ys n z h front behind

-- ---- tests
abbrev OfRelvar : List Origin → List (Named Header) → Test → Type 0
OfRelvar os rs t = HasRelvar (record { schema = record { possreps = []; relvars = rs }; limits = []; origins = os; tests = [] }) t

-- what is defined stays defined
of_stays : (os ps : List Origin) (rs ss : List (Named Header)) (t : Test) → OfRelvar os rs t → OfRelvar (os ++ ps) (rs ++ ss) t
of_stays os ps rs ss (test.Key n key) h = (h.0, stays rs ss n h.0 h.1, base_stays os ps n h.2)
of_stays os ps rs ss (test.Constraint x u) h = tt

keys_of : (os : List Origin) (rs : List (Named Header)) (r : ℕ) (v : Named Header) → slice_get rs r ≡ Some v → is_base (slice_get os r) ≡ true → (ks : List (List Name)) (m : ℕ) (t : Test) → slice_get (map (test.Key r) ks) m ≡ Some t → OfRelvar os rs t
keys_of os rs r v at real [] m t h = cc
keys_of os rs r v at real (k ∷ ks) zero t h = subst (OfRelvar os rs) (some_same (test.Key r k) t h) (v, at, real)
keys_of os rs r v at real (k ∷ ks) (suc m) t h = keys_of os rs r v at real ks m t h

abbrev Each : CatalogueData → Type 0
Each c = (n : ℕ) (t : Test) → slice_get c.tests n ≡ Some t → HasRelvar c t

same_relvars : (c d : CatalogueData) (t : Test) → d.origins ≡ c.origins → d.schema.relvars ≡ c.schema.relvars → HasRelvar c t → HasRelvar d t
same_relvars c d (test.Key n key) e f h = (h.0, ap (λ rs. slice_get rs n) f ∙ h.1, ap (λ os. is_base (slice_get os n)) e ∙ h.2)
same_relvars c d (test.Constraint x u) e f h = tt

after_relvar : (c : CatalogueData) (n : Name) (h : Header) (o : Origin) (ts : List Test) → Each c → ((m : ℕ) (t : Test) → slice_get ts m ≡ Some t → OfRelvar (c.origins ++ o ∷ []) (c.schema.relvars ++ record { name = n; value = h } ∷ []) t) → Each (with_relvar c n h o ts)
after_relvar c n h o ts before new m t p =
    let d = with_relvar c n h o ts in
    let r : Named Header = record { name = n; value = h } in
    let there : OfRelvar (c.origins ++ o ∷ []) (c.schema.relvars ++ r ∷ []) t =
    either c.tests ts m t p
    (λ old. of_stays c.origins (o ∷ []) c.schema.relvars (r ∷ []) t (of c t (before m t old)))
    (λ j q. new j t q) in
    seen d t there
  where
    of : (e : CatalogueData) (u : Test) → HasRelvar e u → OfRelvar e.origins e.schema.relvars u
    of e (test.Key k key) q = q
    of e (test.Constraint x v) q = tt

    seen : (e : CatalogueData) (u : Test) → OfRelvar e.origins e.schema.relvars u → HasRelvar e u
    seen e (test.Key k key) q = q
    seen e (test.Constraint x v) q = tt

defines_each : (c : CatalogueData) (x : Definition) (d : CatalogueData) → Defined c → Each c → Defines c x d → Each d
defines_each c x d defined before (type_ new_type new_possrep plain are is) n t p = same_relvars c d t refl refl (before n t p)
defines_each c x d defined before (base {n = y} {h} {u} {ks} new is are) n t p =
    let o = origin.Base ks u in
    let r : Named Header = record { name = y; value = h } in
    let each = (all_typed c defined).origin_each in
    let at = ap (slice_get (c.schema.relvars ++ r ∷ [])) each ∙ last c.schema.relvars r in
    after_relvar c y h o (map (test.Key (length c.origins)) ks) before (keys_of (c.origins ++ o ∷ []) (c.schema.relvars ++ r ∷ []) (length c.origins) r at (ap is_base (last c.origins o)) ks) n t p
defines_each c x d defined before (virtual {n = y} {u} {h} new is) n t p = after_relvar c y h (origin.Virtual u) [] before (λ m z q. cc) n t p
defines_each c x d defined before (constraint {n = y} {u} new is) n t p =
    either c.tests (test.Constraint y u ∷ []) n t p
    (λ old. same_relvars c d t refl refl (before n t old))
    (λ j q. no_key j q)
  where
    no_key : (j : ℕ) → slice_get (test.Constraint y u ∷ []) j ≡ Some t → HasRelvar d t
    no_key zero q = subst (HasRelvar d) (some_same (test.Constraint y u) t q) tt
    no_key (suc j) q = cc

pub has_relvar : (c : CatalogueData) → Defined c → Each c
has_relvar c nothing_yet n t p = cc
has_relvar c (next_definition {c = old} {x} before is) n t p = defines_each old x c before (has_relvar old before) is n t p
