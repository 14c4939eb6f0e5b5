-- The table of a relvar of a site, by the catalogue of the site's script.
use Rattle.std.specs.Prelude.{ℕ, List, Result, Ok, Err}
use Rattle.td_headings.specs.Catalogues.{CatalogueData}
use Rattle.td_semantics.specs.Scripts.{IsScriptOf}
use Rattle.td_replica.specs.Seen.{Seen}
use Rattle.td_listings.specs.Calls.{Tabulates}
use Rattle.td_listings.specs.declared.error.TableError.{TableError}
use Rattle.td_listings.specs.declared.error.TableError.TheVariants.{Unknown, NoAttributes, Broken, Raised, OutOfMemory}

abbrev pub IsOfScript : Seen → List ℕ → Result (List ℕ) TableError → Type 0
IsOfScript s x (Ok text) = (c : CatalogueData) × IsScriptOf s.script c × Tabulates c s x (Ok text)
IsOfScript s x (Err Unknown) = (c : CatalogueData) × IsScriptOf s.script c × Tabulates c s x (Err Unknown)
IsOfScript s x (Err NoAttributes) = (c : CatalogueData) × IsScriptOf s.script c × Tabulates c s x (Err NoAttributes)
IsOfScript s x (Err Broken) = (c : CatalogueData) × IsScriptOf s.script c × Tabulates c s x (Err Broken)
IsOfScript s x (Err (Raised e)) = (c : CatalogueData) × IsScriptOf s.script c × Tabulates c s x (Err (Raised e))
IsOfScript s x (Err OutOfMemory) = Unit {0}
