-- What the calls answer. Of the causes of refusal the first in the order of each call's errors is answered, or want of
-- memory in place of one that was not reached yet.
use Rattle.std.specs.Prelude.{◌≡◌, ◌≢◌, ℕ, true, false, List, None, Some, Result, Ok, Err}
use Rattle.std.specs.FinMap as by_name
use Rattle.td_values.specs.Headings.{Header}
use Rattle.td_syntax.specs.declared.tree.Named.{Named}
use Rattle.td_schema.specs.Schemas.{relvar_named}
use Rattle.td_headings.specs.Catalogues.{CatalogueData}
use Rattle.td_replica.specs.Seen.{Seen}
use Rattle.td_listings.specs.Sites.{IsListing, IsLog, IsRaised, IsTable}
use Rattle.td_listings.specs.declared.error.ListError.{ListError}
use Rattle.td_listings.specs.declared.error.ListError.TheVariants as list_error
use Rattle.td_listings.specs.declared.error.TableError.{TableError}
use Rattle.td_listings.specs.declared.error.TableError.TheVariants as table_error

abbrev pub Lists : Seen → Result (List ℕ) ListError → Type 0
Lists s (Ok text) = (s.live ≡ true) × IsListing s text
Lists s (Err list_error.Broken) = s.live ≡ false
Lists s (Err list_error.OutOfMemory) = s.live ≡ true

abbrev pub Logs : Seen → Result (List ℕ) ListError → Type 0
Logs s (Ok text) = (s.live ≡ true) × IsLog s text
Logs s (Err list_error.Broken) = s.live ≡ false
Logs s (Err list_error.OutOfMemory) = s.live ≡ true

-- the relvar of this name stands at place n, and has attributes
pub record HasTable (c : CatalogueData) (x : List ℕ) (n : ℕ) : Type 0 where
  pub relvar : Named Header
  pub named : relvar_named c.schema x ≡ Some (n, relvar)
  pub attributes : by_name.len relvar.value ≢ 0

pub record HasNoAttributes (c : CatalogueData) (x : List ℕ) : Type 0 where
  pub place : ℕ
  pub relvar : Named Header
  pub named : relvar_named c.schema x ≡ Some (place, relvar)
  pub attributes : by_name.len relvar.value ≡ 0

abbrev pub Tabulates : CatalogueData → Seen → List ℕ → Result (List ℕ) TableError → Type 0
Tabulates c s x (Ok text) = (s.live ≡ true) × (n : ℕ) × HasTable c x n × IsTable s n text
Tabulates c s x (Err table_error.Unknown) = relvar_named c.schema x ≡ None
Tabulates c s x (Err table_error.NoAttributes) = HasNoAttributes c x
Tabulates c s x (Err table_error.Broken) = (s.live ≡ false) × (n : ℕ) × HasTable c x n
Tabulates c s x (Err (table_error.Raised e)) = (s.live ≡ true) × (n : ℕ) × HasTable c x n × IsRaised s n e
Tabulates c s x (Err table_error.OutOfMemory) = (s.live ≡ true) × (n : ℕ) × HasTable c x n
