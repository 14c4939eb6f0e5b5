-- Names in scope mean what typing takes them for, within tuples and behind names of WITH.
use Rattle.std.proofs.Common.{◌≡◌, ◌++◌, Bool, true, false, if◌then◌else◌, List, [], ◌∷◌, Option, None, Some, refl, sym, ap, ◌∙◌, subst}
use Rattle.std.specs.FinMap as by_name
use Rattle.std.specs.Option.{option_map}
use Rattle.td_values.specs.Attributes.{attribute_of}
use Rattle.td_values.specs.Data.{Datum, Attrs}
use Rattle.td_values.specs.Headings.{Header}
use Rattle.td_values.specs.Whole.{type_of}
use Rattle.td_values.specs.declared.TypeKind.{TypeKind}
use Rattle.td_tuples.proofs.ByName.{fits_get}
use Rattle.td_syntax.specs.declared.tree.Named.{Named}
use Rattle.td_schema.specs.declared.scope.Meant.{Meant}
use Rattle.td_schema.specs.declared.scope.Meant.TheVariants.{Local as local}
use Rattle.td_schema.specs.Kinds.{Name, kind_of}
use Rattle.td_schema.specs.Schemas.{SchemaData}
use Rattle.td_schema.specs.Scopes as scopes
use Rattle.td_schema.specs.Scopes.{Scope, or_outer, with_names}
use Rattle.td_meaning.specs.Mean as mean
use Rattle.td_meaning.specs.Mean.{Names, Relvars, or_else, are_equal_names}
use Rattle.td_typing.specs.Trees.{named}
use Rattle.td_typing.proofs.KindLemmas as kinds
use Rattle.td_type_soundness.specs.Meanings.{HasKind, IsTupleOver, IsMeant, AreMeant}
use Rattle.td_type_soundness.proofs.OneOperand.{attribute_has}

-- one more name of WITH
pub given_last : (ks : List (Named TypeKind)) (n : Name) (k : TypeKind) (scope : Scope) → with_names (ks ++ named n k ∷ []) scope ≡ scopes.with_name n k (with_names ks scope)
given_last [] n k scope = refl
given_last (x ∷ ks) n k scope = given_last ks n k (scopes.with_name x.name x.value scope)

module _ (s : SchemaData) (relvars : Relvars) where
  local_is : (k : TypeKind) (m : Meant) (d : Datum) → Some (local k) ≡ Some m → HasKind s k d → IsMeant s relvars m (Some d)
  local_is k m d e has = subst (λ n. IsMeant s relvars n (Some d)) (kinds.some_same (local k) m e) (d, refl, has)

  pub within_are : (h : Header) (t : Attrs) (scope : Scope) (names : Names) → IsTupleOver s h t → AreMeant s relvars scope names → AreMeant s relvars (scopes.within_tuple h scope) (mean.within t names)
  within_are h t scope names has are x m is =
      by (attribute_of x t) refl (sym (ap (λ o. or_outer o (scope x)) (fits_get h t has.0 x)) ∙ is)
    where
      by : (o : Option Datum) → attribute_of x t ≡ o → or_outer (option_map type_of (attribute_of x t)) (scope x) ≡ Some m → IsMeant s relvars m (or_else (attribute_of x t) (names x))
      by None e q = subst (λ o. IsMeant s relvars m (or_else o (names x))) (sym e) (are x m (ap (λ o. or_outer (option_map type_of o) (scope x)) (sym e) ∙ q))
      by (Some d) e q =
          let one : Some (local (kind_of (type_of d))) ≡ Some m = ap (λ o. or_outer (option_map type_of o) (scope x)) (sym e) ∙ q in
          let typed : by_name.get h x ≡ Some (type_of d) = fits_get h t has.0 x ∙ ap (option_map type_of) e in
          subst (λ o. IsMeant s relvars m (or_else o (names x))) (sym e) (local_is (kind_of (type_of d)) m d one (attribute_has s h t x (type_of d) d has typed e))

  pub given_are : (n : Name) (k : TypeKind) (d : Datum) (scope : Scope) (names : Names) → HasKind s k d → AreMeant s relvars scope names → AreMeant s relvars (scopes.with_name n k scope) (mean.given n d names)
  given_are n k d scope names has are x m is = by (are_equal_names n x) is
    where
      by : (b : Bool) → (if b then Some (local k) else scope x) ≡ Some m → IsMeant s relvars m (if b then Some d else names x)
      by true e = local_is k m d e has
      by false e = are x m e

  pub further_are : (ks : List (Named TypeKind)) (n : Name) (k : TypeKind) (d : Datum) (scope : Scope) (names : Names) → HasKind s k d → AreMeant s relvars (with_names ks scope) names → AreMeant s relvars (with_names (ks ++ named n k ∷ []) scope) (mean.given n d names)
  further_are ks n k d scope names has are = subst (λ w. AreMeant s relvars w (mean.given n d names)) (sym (given_last ks n k scope)) (given_are n k d (with_names ks scope) names has are)
