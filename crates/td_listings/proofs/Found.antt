-- The relvar of a name, found by a walk.
use Rattle.std.proofs.Common.{◌≡◌, ◌≢◌, ℕ, ◌+◌, Bool, true, false, List, drop, Option, Some, slice_get, if◌then◌else◌, refl, sym, ap, subst, ◌∙◌}
use Rattle.std.specs.FinMap as by_name
use Rattle.td_values.specs.Headings.{Header}
use Rattle.std.proofs.lemmas.Map.Lookups.{exact_bytes}
use Rattle.std.proofs.lemmas.Map.Views.{tells_apart}
use Rattle.td_syntax.specs.declared.tree.Named.{Named}
use Rattle.td_schema.specs.Schemas.{SchemaData, first_from, is_named, relvar_named, same_text}
use Rattle.td_headings.specs.Catalogues.{CatalogueData}
use Rattle.td_listings.specs.Calls.{HasNoAttributes, HasTable}
use Rattle.td_listings.specs.ForProofs.Asked.{StandsAt}
use Rattle.td_listings.specs.ForProofs.Written.{IsFound}
use Rattle.td_listings.proofs.Relvars.{opened}

module _ (c : CatalogueData) (x : List ℕ) (n : ℕ) (v : Named Header) (there : slice_get c.schema.relvars n ≡ Some v) (so_far : first_from n (is_named x) (drop n c.schema.relvars) ≡ relvar_named c.schema x) where
  abbrev pub rest : Option (ℕ × Named Header)
  rest = first_from (n + 1) (is_named x) (drop (n + 1) c.schema.relvars)

  begun : first_from n (is_named x) (drop n c.schema.relvars) ≡ (if is_named x v then Some (n, v) else rest)
  begun = ap (first_from n (is_named x)) (opened c.schema.relvars n v there)

  pub other : same_text x v.name ≡ false → rest ≡ relvar_named c.schema x
  other fails = ap (λ b. if b then Some (n, v) else rest) (sym fails) ∙ sym begun ∙ so_far

  pub this : (name : List ℕ) (h : Header) → v ≡ record { name = name; value = h } → same_text x name ≡ true → IsFound c x n name h
  this name h is passes = record {
    named = sym so_far ∙ begun ∙ ap (λ b. if b then Some (n, v) else rest) (ap (λ (w : Named Header). same_text x w.name) is ∙ passes) ∙ ap (λ (w : Named Header). Some (n, w)) is;
    same = sym (tells_apart exact_bytes x name passes);
  }

-- what was found, by the text and by the name
module _ (c : CatalogueData) (x : List ℕ) (n : ℕ) (name : List ℕ) (h : Header) (found : IsFound c x n name h) where
  pub stands : StandsAt c name n
  stands = (record { name = name; value = h }, subst (λ (y : List ℕ). relvar_named c.schema y ≡ Some (n, record { name = name; value = h })) (sym found.same) found.named)

  pub bare : by_name.len h ≡ 0 → HasNoAttributes c x
  bare none = record { place = n; relvar = record { name = name; value = h }; named = found.named; attributes = none }

  pub has_table : by_name.len h ≢ 0 → HasTable c x n
  has_table some = record { relvar = record { name = name; value = h }; named = found.named; attributes = some }
