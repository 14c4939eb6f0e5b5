-- Values of types: truth values and relations among them, and those of names in scope.
use Rattle.std.proofs.Common.{◌≡◌, ℕ, suc, ◌+◌, Bool, true, false, List, [], ◌∷◌, map, Option, Some, None, if◌then◌else◌, Result, refl, ap, sym, ◌∙◌, subst, arith}
use Rattle.std.specs.FinMap as by_name
use Rattle.std.specs.Prelude.{slice_get}
use Rattle.td_values.specs.Data.{Ty, Datum, items_of}
use Rattle.td_values.specs.Headings.{Header}
use Rattle.td_values.specs.Order.{text_cmp}
use Rattle.td_values.specs.TextOrder.{text_equivalence, text_total}
use Rattle.td_values.specs.View.{ty_of}
use Rattle.td_values.specs.Whole.{type_of}
use Rattle.td_values.specs.declared.TypeKind.{TypeKind}
use Rattle.td_values.specs.declared.TypeKind.TheVariants as kind
use Rattle.td_syntax.specs.declared.tree.Named.{Named}
use Rattle.td_schema.specs.Kinds.{Name, kind_of}
use Rattle.td_schema.specs.Schemas.{SchemaData, first_from, is_named, relvar_named, same_text}
use Rattle.td_schema.specs.Scopes.{as_relvar, nothing, or_outer, relvars_of, within_tuple}
use Rattle.td_schema.specs.Written.{kind_column, kind_columns, names}
use Rattle.td_schema.specs.declared.scope.Meant.{Meant}
use Rattle.td_schema.specs.declared.scope.Meant.TheVariants.{Local as local, Relvar as relvar}
use Rattle.td_schema.specs.declared.schema.Representation.{Representation}
use Rattle.td_schema.proofs.KindLemmas.{kind_back}
use Rattle.td_typing.specs.Trees.{component_kinds}
use Rattle.td_algebra.specs.Raising.{and_then}
use Rattle.td_algebra.specs.declared.errors.Stop.{Stop}
use Rattle.td_meaning.specs.Mean.{Names, Relvars}
use Rattle.td_meaning.specs.Selections.{components}
use Rattle.td_operators.specs.Values.{rows_of, truth_of}
use Rattle.td_operators.proofs.KindLemmas.{items_back}
use Rattle.td_type_soundness.specs.Meanings.{AreMeant, GivesValue, GivesRelation, HasKind, IsMeant, IsRelationOver, OrError}
use Rattle.td_type_soundness.specs.Values.{AreComponentsOf, AreValues}
use Rattle.td_type_soundness.proofs.Errors.{goes_on}
use Rattle.td_type_soundness.proofs.Values as values
use Rattle.td_eval.proofs.Placed.{some_same}

-- ---- truth values and relations
-- a truth value, or an error
abbrev pub GivesTruth : Result Bool Stop → Type 0
GivesTruth r = OrError (λ (b : Bool). Unit {0}) r

module _ (s : SchemaData) where
  pub truth_given : (m : Result Datum Stop) → GivesValue s kind.Boolean m → GivesTruth (and_then m truth_of)
  truth_given m g = goes_on (HasKind s kind.Boolean) (λ (b : Bool). Unit {0}) truth_of m g (values.truth_given s)

  pub rows_given : (h : Header) (m : Result Datum Stop) → GivesValue s (kind.Relation h) m → GivesRelation s h (and_then m rows_of)
  rows_given h m g = goes_on (HasKind s (kind.Relation h)) (IsRelationOver s h) rows_of m g (values.rows_given s h)

-- ---- relvars
abbrev FoundAt : {A : Type 0} → ℕ × A → ℕ → List A → Type 0
FoundAt r n xs = (j : ℕ) × (r.0 ≡ n + j) × (slice_get xs j ≡ Some r.1)

stands : {A : Type 0} (n : ℕ) (test : A → Bool) (xs : List A) (r : ℕ × A) → first_from n test xs ≡ Some r → FoundAt r n xs
stands n test [] r is = cc
stands n test (x ∷ xs) r is = by (test x) is (stands (n + 1) test xs r)
  where
    by : (b : Bool) → (if b then Some (n, x) else first_from (n + 1) test xs) ≡ Some r → (first_from (n + 1) test xs ≡ Some r → FoundAt r (n + 1) xs) → FoundAt r n (x ∷ xs)
    by true h rest =
        let same = some_same (n, x) r h in
        let place : n ≡ r.0 = ap (λ p. p.0) same in
        (0, omega (arith, place), ap (λ p. Some p.1) same)
    by false h rest = let f = rest h in (suc f.0, omega (arith, f.1), f.2)

module _ (s : SchemaData) (r : Relvars) (known : Names) (each : (n : ℕ) (v : Named Header) → slice_get s.relvars n ≡ Some v → GivesRelation s v.value (r n)) where
  named_meant : (x : Name) (m : Meant) (o : Option (ℕ × Named Header)) → relvar_named s x ≡ o → as_relvar o ≡ Some m → IsMeant s r m (known x)
  named_meant x m None named is = cc
  named_meant x m (Some v) named is =
      let f = stands 0 (is_named x) s.relvars v named in
      let place : f.0 ≡ v.0 = omega (arith, f.1) in
      subst (λ (k : Meant). IsMeant s r k (known x)) (some_same (relvar v.0 v.1.value) m is) (subst (λ n. GivesRelation s v.1.value (r n)) place (each f.0 v.1 f.2))

  pub relvars_meant : AreMeant s r (relvars_of s) known
  relvars_meant x m is = named_meant x m (relvar_named s x) refl is

-- ---- the components of a possrep
module _ (s : SchemaData) where
  abbrev IsFound : TypeKind → Option Datum → Type 0
  IsFound k o = (d : Datum) × (o ≡ Some d) × HasKind s k d

  found : (ks : List (Named TypeKind)) (ds : List Datum) (x : Name) (ty : Ty) → map type_of ds ≡ map ty_of (map (λ (c : Named TypeKind). c.value) ks) → AreValues s (items_of ds) → by_name.find text_cmp x (map kind_column ks) ≡ Some ty → IsFound (kind_of ty) (components (names ks) ds x)
  found [] ds x ty types are is = cc
  found (k ∷ ks) [] x ty types are is = cc
  found (k ∷ ks) (d ∷ ds) x ty types are is = by (same_text x k.name) (text_equivalence.symm k.name x) is (found ks ds x ty other_types are.1)
    where
      first_type : type_of d ≡ ty_of k.value
      first_type = cc

      other_types : map type_of ds ≡ map ty_of (map (λ (c : Named TypeKind). c.value) ks)
      other_types = cc

      here : ty_of k.value ≡ ty → HasKind s (kind_of ty) d
      here same = subst (λ (t : Ty). HasKind s (kind_of t) d) same (first_type ∙ sym (ap ty_of (kind_back k.value)), are.0)

      by : (b : Bool) → same_text k.name x ≡ b → (if b then Some (ty_of k.value) else by_name.find text_cmp x (map kind_column ks)) ≡ Some ty → (by_name.find text_cmp x (map kind_column ks) ≡ Some ty → IsFound (kind_of ty) (components (names ks) ds x)) → IsFound (kind_of ty) (if same_text k.name x then Some d else components (names ks) ds x)
      by true e h rest = (d, ap (λ b. if b then Some d else components (names ks) ds x) e, here (some_same (ty_of k.value) ty h))
      by false e h rest =
          let f = rest h in
          (f.0, ap (λ b. if b then Some d else components (names ks) ds x) e ∙ f.1, f.2)

  module _ (q : Relvars) (r : Representation) (ds : List Datum) (fit : AreComponentsOf r (items_of ds)) (are : AreValues s (items_of ds)) where
    typed : map type_of ds ≡ map ty_of (component_kinds r)
    typed = ap (map type_of) (sym (items_back ds)) ∙ fit

    component_meant : (x : Name) (m : Meant) (o : Option Ty) → by_name.get (kind_columns r.components) x ≡ o → or_outer o None ≡ Some m → IsMeant s q m (components (names r.components) ds x)
    component_meant x m None get is = cc
    component_meant x m (Some ty) get is =
        subst (λ (n : Meant). IsMeant s q n (components (names r.components) ds x)) (some_same (local (kind_of ty)) m is)
        (found r.components ds x ty typed are (sym (by_name.get-from_entries text_total (map kind_column r.components) x) ∙ get))

    pub components_meant : AreMeant s q (within_tuple (kind_columns r.components) nothing) (components (names r.components) ds)
    components_meant x m is = component_meant x m (by_name.get (kind_columns r.components) x) refl is
