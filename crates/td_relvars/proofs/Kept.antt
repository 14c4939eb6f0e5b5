-- A database stays one where a relvar changes; what it has belongs to it.
use Rattle.std.proofs.Common.{◌≡◌, ℕ, zero, suc, ◌<◌, Bool, true, false, List, [], ◌∷◌, length, Option, None, Some, Result, Ok, Err, OnOk, OnErr, slice_get, refl, sym, ◌∙◌, subst, arith}
use Rattle.td_values.specs.Headings.{Header}
use Rattle.td_values.specs.Rows.{RowsData}
use Rattle.td_relations.specs.Deltas.{DeltaData}
use Rattle.td_syntax.specs.declared.tree.Named.{Named}
use Rattle.td_headings.specs.Catalogues.{CatalogueData}
use Rattle.td_headings.specs.Reached.{is_base}
use Rattle.td_headings.proofs.WellTyped.{all_typed}
use Rattle.td_type_soundness.specs.Meanings.{IsRelationOver}
use Rattle.td_semantics.specs.Databases.{Belongs, DatabaseData, IsDatabase, Stored, stored_relvars}
use Rattle.td_relvars.specs.Changed.{CanChange, change, changed}
use Rattle.td_relvars.proofs.Places.{change_put, ok_same}
use Rattle.td_relvars.proofs.Stores.{base_within, not_stored, put_is}

-- ---- what is stored belongs
within_there : {A P : Type 0} (xs : List A) (n : ℕ) → n < length xs → slice_get xs n ≡ None → P
within_there [] n lt e = absurd (omega arith)
within_there (x ∷ xs) zero lt e = cc
within_there (x ∷ xs) (suc n) lt e = within_there xs n (omega arith) e

module _ (d : DatabaseData) (is : IsDatabase d) (n : ℕ) where
  named :
      (o : Option (Named Header)) → slice_get d.catalogue.schema.relvars n ≡ o
      → is_base (slice_get d.catalogue.origins n) ≡ true
      → (v : Named Header) × (slice_get d.catalogue.schema.relvars n ≡ Some v)
  named (Some v) at base = (v, at)
  named None at base =
      let lt = base_within d.catalogue.origins n base in
      let each = (all_typed d.catalogue is.defined).origin_each in
      within_there d.catalogue.schema.relvars n (omega (arith, lt, each)) at

  -- a base relvar has a relation
  pub base_has : is_base (slice_get d.catalogue.origins n) ≡ true → (r : RowsData) × (stored_relvars d.stored n ≡ Ok r)
  base_has base =
      let v = named (slice_get d.catalogue.schema.relvars n) refl base in
      let k = is.stored n v.0 base v.1 in
      (k.0, k.1)

  pub belongs : (r : RowsData) → stored_relvars d.stored n ≡ Ok r → Belongs d.catalogue n r
  belongs r has = by (is_base (slice_get d.catalogue.origins n)) refl
    where
      by : (b : Bool) → is_base (slice_get d.catalogue.origins n) ≡ b → Belongs d.catalogue n r
      by false virtual = not_stored (slice_get d.stored n) r has (is.nothing_else n virtual)
      by true base =
          let v = named (slice_get d.catalogue.schema.relvars n) refl base in
          let k = is.stored n v.0 base v.1 in
          record {
            relvar = v.0;
            stored = base;
            there = v.1;
            relation = subst (IsRelationOver d.catalogue.schema v.0.value) (ok_same k.0 r (sym k.1 ∙ has)) k.2;
          }

-- ---- with a change
abbrev IsOf : CatalogueData → Stored → Type 0
IsOf c stored = IsDatabase (record { catalogue = c; stored = stored })

module _
    (c : CatalogueData) (stored : Stored) (n : ℕ) (d : DeltaData)
    (is : IsOf c stored) (can : CanChange (record { catalogue = c; stored = stored }) n d) where
  pub changed_is : IsOf c (change n d stored)
  changed_is =
      let put_it = put_is c stored is n (changed can.before d) can.belongs in
      subst (IsOf c) (sym (change_put n d stored can.before can.has)) put_it

  -- and where memory was wanting for it
  pub change_is :
      {E : Type 0} (a : Result (Unit {0}) E) (new : Stored) → OnOk a (new ≡ change n d stored) → OnErr a (new ≡ stored)
      → IsOf c new
  change_is (Ok u) new done kept = subst (IsOf c) (sym done) changed_is
  change_is (Err e) new done kept = subst (IsOf c) (sym kept) is
