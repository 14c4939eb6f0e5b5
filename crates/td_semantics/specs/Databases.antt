-- What a database is seen as: what is defined, and what each base relvar has.
use Rattle.std.specs.Prelude.{◌≡◌, ℕ, zero, suc, true, false, length, List, [], ◌∷◌, Option, None, Some, Result, Ok, Err, slice_get, refl}
use Rattle.std.specs.Coded.{Coded, code_by, coded×, coded_list, coded_option}
use Rattle.std.specs.Option.{option_flatten}
use Rattle.td_values.specs.Headings.{Header}
use Rattle.td_values.specs.Rows.{RowsData, rows_code}
use Rattle.td_syntax.specs.declared.tree.Named.{Named}
use Rattle.td_schema.specs.Schemas.{relvar_named}
use Rattle.td_algebra.specs.declared.errors.Stop.{Stop}
use Rattle.td_algebra.specs.declared.errors.Stop.TheVariants.{Untyped}
use Rattle.td_headings.specs.Catalogues.{CatalogueData}
use Rattle.td_headings.specs.ForProofs.Codes.{catalogue_code}
use Rattle.td_headings.specs.Definitions.{Defined}
use Rattle.td_headings.specs.Reached.{is_base}
use Rattle.td_meaning.specs.Mean.{Relvars}
use Rattle.td_type_soundness.specs.Meanings.{IsRelationOver}
use Rattle.td_semantics.specs.Stored.{AreStored}
use Rattle.td_semantics.specs.Tests.{AreLegal}

-- for each relvar, in order of definition, its relation; for a virtual one nothing is stored
abbrev pub Stored : Type 0
Stored = List (Option RowsData)

pub record DatabaseData : Type 0 where
  pub catalogue : CatalogueData
  pub stored : Stored

-- by which a proof tells them apart
abbrev pub database_code : Coded DatabaseData
database_code =
    code_by (CatalogueData × Stored) (coded× catalogue_code (coded_list (coded_option rows_code))) (λ d. (d.catalogue, d.stored)) (λ p. record { catalogue = p.0; stored = p.1 }) (λ _. refl)

-- what base relvars have
abbrev pub at_place : Option (Option RowsData) → Result RowsData Stop
at_place (Some (Some r)) = Ok r
at_place _ = Err Untyped

abbrev pub stored_relvars : Stored → Relvars
stored_relvars stored n = at_place (slice_get stored n)

-- the relation at the place in place of the one there
abbrev pub with_relation : ℕ → RowsData → Stored → Stored
with_relation n r [] = []
with_relation zero r (x ∷ xs) = Some r ∷ xs
with_relation (suc n) r (x ∷ xs) = x ∷ with_relation n r xs

-- what is stored of the relvar at a place, and of the relvar of a name
abbrev pub stored_at : DatabaseData → ℕ → Option RowsData
stored_at d n = option_flatten (slice_get d.stored n)

abbrev pub stored_under : DatabaseData → Option (ℕ × Named Header) → Option RowsData
stored_under d None = None
stored_under d (Some v) = stored_at d v.0

abbrev pub stored_named : DatabaseData → List ℕ → Option RowsData
stored_named d x = stored_under d (relvar_named d.catalogue.schema x)

-- the relvar at the place is a base relvar, of whose heading the relation is
pub record Belongs (c : CatalogueData) (n : ℕ) (r : RowsData) : Type 0 where
  pub relvar : Named Header
  pub stored : is_base (slice_get c.origins n) ≡ true
  pub there : slice_get c.schema.relvars n ≡ Some relvar
  pub relation : IsRelationOver c.schema relvar.value r

-- definitions made the catalogue, each base relvar has a relation of its heading, and of a virtual one nothing is
-- stored
pub record IsDatabase (d : DatabaseData) : Type 0 where
  pub defined : Defined d.catalogue
  pub each : length d.stored ≡ length d.catalogue.origins
  pub stored : AreStored d.catalogue (stored_relvars d.stored)
  pub nothing_else : (n : ℕ) → is_base (slice_get d.catalogue.origins n) ≡ false → stored_at d n ≡ None

-- every key and constraint is true
abbrev pub IsLegal : DatabaseData → Type 0
IsLegal d = AreLegal d.catalogue (stored_relvars d.stored)
