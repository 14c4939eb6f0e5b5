-- The values of INITs, one after the other.
use Rattle.std.proofs.Common.{◌≡◌, ℕ, zero, suc, ◌+◌, ◌<◌, ◌≤◌, true, List, [], ◌∷◌, length, drop, Option, Some, None, Result, Ok, Err, slice_get, refl, sym, ap, subst, ◌∙◌, arith}
use Rattle.std.proofs.lemmas.List.{drop_all}
use Rattle.td_values.specs.Data.{no_attrs}
use Rattle.td_values.specs.Headings.{Header}
use Rattle.td_values.specs.Rows.{RowsData}
use Rattle.td_values.specs.declared.TypeKind.TheVariants as kind
use Rattle.td_syntax.specs.declared.tree.Named.{Named}
use Rattle.td_schema.specs.Schemas.{SchemaData}
use Rattle.td_typed_trees.specs.declared.expression.Expression.{Expression}
use Rattle.td_typed_trees.specs.declared.tree.Typed.{Typed}
use Rattle.td_typing.proofs.KindLemmas.{some_same}
use Rattle.td_algebra.specs.declared.errors.Stop.{Stop}
use Rattle.td_algebra.specs.Raising.{and_then}
use Rattle.td_headings.specs.Catalogues.{CatalogueData}
use Rattle.td_headings.specs.Definitions.{Defined}
use Rattle.td_headings.specs.Expressions.{IsTree, IsClosedExpression, IsInit, no_tuple, init_at, init_of}
use Rattle.td_headings.specs.Reached.{is_base}
use Rattle.td_headings.specs.declared.defined.Origin.{Origin}
use Rattle.td_headings.specs.declared.defined.Origin.TheVariants as origin
use Rattle.td_headings.proofs.WellTyped.{all_typed, init_tree}
use Rattle.td_operators.specs.Values.{rows_of}
use Rattle.td_type_soundness.specs.Meanings.{IsRelationOver}
use Rattle.td_semantics.specs.Raises.{Tells, stop_of}
use Rattle.td_semantics.specs.Trees.{IsIn, places_from, tree_means}
use Rattle.td_semantics.specs.declared.failure.Failure.{Failure}
use Rattle.td_semantics.specs.declared.failure.Failure.TheVariants as failure
use Rattle.td_semantics.specs.Databases.{Belongs, DatabaseData, Stored, with_relation, stored_relvars}
use Rattle.td_semantics.specs.Openings.{with_init, opened, opening}
use Rattle.td_relvars.specs.ForProofs.Opened.{Fills, Leaves, TellsInit}

-- ---- the INIT of a relvar
-- of a base relvar that is there
record OfRelvar (c : CatalogueData) (n : ℕ) (v : Typed × Header) : Type 0 where
  pub relvar : Named Header
  pub stored : is_base (slice_get c.origins n) ≡ true
  pub there : slice_get c.schema.relvars n ≡ Some relvar
  pub heading : relvar.value ≡ v.1

of_relvar : (c : CatalogueData) (n : ℕ) (v : Typed × Header) → init_at c n ≡ Some v → OfRelvar c n v
of_relvar c n v h = by (slice_get c.origins n) (slice_get c.schema.relvars n) refl refl h
  where
    by : (o : Option Origin) (r : Option (Named Header)) → slice_get c.origins n ≡ o → slice_get c.schema.relvars n ≡ r → init_of o r ≡ Some v → OfRelvar c n v
    by None r p q e = cc
    by (Some (origin.Virtual u)) r p q e = cc
    by (Some (origin.Base ks None)) r p q e = cc
    by (Some (origin.Base ks (Some u))) None p q e = cc
    by (Some (origin.Base ks (Some u))) (Some r) p q e = record { relvar = r; stored = ap is_base p; there = q; heading = ap (λ (z : Typed × Header). z.1) (some_same (u, r.value) v e) }

pub record Init (c : CatalogueData) (n : ℕ) (x : Expression) : Type 0 where
  pub value : Typed × Header
  pub is : init_at c n ≡ Some value
  pub whole : IsClosedExpression c value.0 (kind.Relation value.1) x

pub init : (c : CatalogueData) (n : ℕ) (x : Expression) → IsInit c (init_at c n) x → Init c n x
init c n x h = by (init_at c n) refl h
  where
    by : (o : Option (Typed × Header)) → init_at c n ≡ o → IsInit c o x → Init c n x
    by None e w = absurd w
    by (Some v) e w = record { value = v; is = e; whole = w }

module _ (c : CatalogueData) (n : ℕ) (x : Expression) (i : Init c n x) where
  relvar : OfRelvar c n i.value
  relvar = of_relvar c n i.value i.is

  pub is_there : {P : Type 0} → slice_get c.schema.relvars n ≡ None → P
  is_there none = let no : Some relvar.relvar ≡ None = sym relvar.there ∙ none in cc

  pub init_in : Defined c → IsIn c x
  init_in defined = record {
    tree = subst (λ u. IsTree c no_tuple u x.kind) (sym i.whole.tree) (subst (IsTree c no_tuple i.value.0) (sym i.whole.kind_) (init_tree c defined n i.value i.is));
    attributes = i.whole.attributes;
    under = i.whole.under;
  }

  module _ (v : Named Header) (at : slice_get c.schema.relvars n ≡ Some v) where
    heading_is : v.value ≡ i.value.1
    heading_is = ap (λ (w : Named Header). w.value) (some_same v relvar.relvar (sym at ∙ relvar.there)) ∙ relvar.heading

    pub kind_is : x.kind ≡ kind.Relation v.value
    kind_is = i.whole.kind_ ∙ ap kind.Relation (sym heading_is)

    pub belongs : (r : RowsData) → IsRelationOver c.schema v.value r → Belongs c n r
    belongs r is = record { relvar = v; stored = relvar.stored; there = at; relation = is }

  pub tells_init : (stored : Stored) (a : Result RowsData Failure) → Tells a (and_then (tree_means c (stored_relvars stored) x.tree no_attrs) rows_of) → TellsInit c stored (init_at c n) a
  tells_init stored a h = subst (λ o. TellsInit c stored o a) (sym i.is) (subst (λ u. Tells a (and_then (tree_means c (stored_relvars stored) u no_attrs) rows_of)) i.whole.tree h)

-- ---- with its value
module _ (c : CatalogueData) (stored : Stored) (n : ℕ) where
  pub without : (o : Option (Typed × Header)) → o ≡ None → with_init c stored n o ≡ Ok stored
  without o e = ap (with_init c stored n) e

  pub with_value : (o : Option (Typed × Header)) (r : RowsData) → TellsInit c stored o (Ok r) → with_init c stored n o ≡ Ok (with_relation n r stored)
  with_value None r h = absurd h
  with_value (Some v) r h = ap (λ m. and_then m (λ q. Ok (with_relation n q stored))) h

  pub raises : (o : Option (Typed × Header)) (f : Failure) (new : Stored) → TellsInit c stored o (Err f) → Leaves (Err f) new (with_init c stored n o)
  raises None f new h = absurd h
  raises (Some v) (failure.Raised e) new h = ap (λ m. and_then m (λ q. Ok (with_relation n q stored))) h
  raises (Some v) failure.OutOfMemory new h = tt

-- ---- one after the other
pub places_next : {A : Type 0} (xs : List A) (n m : ℕ) → n < length xs → places_from m (drop n xs) ≡ m ∷ places_from (suc m) (drop (suc n) xs)
places_next [] n m lt = absurd (omega arith)
places_next (x ∷ xs) zero m lt = refl
places_next (x ∷ xs) (suc n) m lt = places_next xs n m (omega arith)

pub goes_on : (c : CatalogueData) (n : ℕ) (ns : List ℕ) (s t : Stored) → with_init c s n (init_at c n) ≡ Ok t → opened c (n ∷ ns) s ≡ opened c ns t
goes_on c n ns s t h = ap (λ m. and_then m (opened c ns)) h

pub stops : (c : CatalogueData) (n : ℕ) (ns : List ℕ) (s : Stored) (e : Stop) → with_init c s n (init_at c n) ≡ Err e → opened c (n ∷ ns) s ≡ Err e
stops c n ns s e h = ap (λ m. and_then m (opened c ns)) h

-- those before the place have their values
pub record Begun (c : CatalogueData) (n : ℕ) (d : DatabaseData) : Type 0 where
  pub same : d.catalogue ≡ c
  pub left : opened c (places_from n (drop n c.origins)) d.stored ≡ opening c

module _ (c : CatalogueData) (n : ℕ) (d : DatabaseData) (b : Begun c n d) where
  abbrev behind : List ℕ
  behind = places_from (suc n) (drop (suc n) c.origins)

  next : n < length c.origins → opened c (n ∷ behind) d.stored ≡ opening c
  next lt = ap (λ ns. opened c ns d.stored) (sym (places_next c.origins n n lt)) ∙ b.left

  pub more : (e : DatabaseData) → n < length c.origins → e.catalogue ≡ d.catalogue → with_init d.catalogue d.stored n (init_at d.catalogue n) ≡ Ok e.stored → Begun c (n + 1) e
  more e lt kept is =
      let one : n + 1 ≡ suc n = omega arith in
      let step = subst (λ (k : CatalogueData). with_init k d.stored n (init_at k n) ≡ Ok e.stored) b.same is in
      record {
        same = kept ∙ b.same;
        left = ap (λ m. opened c (places_from m (drop m c.origins)) e.stored) one ∙ sym (goes_on c n behind d.stored e.stored step) ∙ next lt;
      }

  pub stopped : (f : Failure) (new : Stored) → n < length c.origins → Leaves (Err f) new (with_init d.catalogue d.stored n (init_at d.catalogue n)) → Fills c (Err f)
  stopped (failure.Raised e) new lt is =
      let step = subst (λ (k : CatalogueData). with_init k d.stored n (init_at k n) ≡ Err (stop_of e)) b.same is in
      sym (next lt) ∙ stops c n behind d.stored (stop_of e) step
  stopped failure.OutOfMemory new lt is = tt

  pub ended : length c.origins ≤ n → Fills c (Ok d)
  ended all = (b.same, sym b.left ∙ ap (λ (os : List Origin). opened c (places_from n os) d.stored) (drop_all n c.origins all))

-- as many places as relvars
pub counted : (c d : CatalogueData) (s : SchemaData) (n : ℕ) → n ≡ length s.relvars → s ≡ d.schema → d ≡ c → Defined d → n ≡ length c.origins
counted c d s n count is same defined =
    count ∙ ap (λ (z : SchemaData). length z.relvars) is ∙ sym (all_typed d defined).origin_each ∙ ap (λ (z : CatalogueData). length z.origins) same
