-- What writing a text of a site does to a writer. The text is made whole before any of it is written; at a write fault
-- a front of it was written, and a failure is counted.
use Rattle.std.specs.Prelude.{◌≡◌, ℕ, true, false, List, Result, Ok, Err}
use Rattle.std.specs.Io.KnownBytes.{Appends}
use Rattle.td_io.specs.Counted.{counted}
use Rattle.td_io.specs.Streams.{AppendsFront}
use Rattle.td_io.specs.Views.{Output}
use Rattle.td_headings.specs.Catalogues.{CatalogueData}
use Rattle.td_semantics.specs.Scripts.{IsScriptOf}
use Rattle.td_replica.specs.Seen.{Seen}
use Rattle.td_listings.specs.Calls.{Tabulates}
use Rattle.td_listings.specs.Sites.{IsListing}
use Rattle.td_listings.specs.declared.error.ExportError.{ExportError}
use Rattle.td_listings.specs.declared.error.ExportError.TheVariants as export_error
use Rattle.td_listings.specs.declared.error.ListingError.{ListingError}
use Rattle.td_listings.specs.declared.error.ListingError.TheVariants as listing_error
use Rattle.td_listings.specs.declared.error.TableError.TheVariants as table_error

-- the text was written and handed on
abbrev pub WritesWhole : List ℕ → Output → Output → Type 0
WritesWhole text w after = Appends w.held after.held text × (after.faults ≡ w.faults) × (after.is_flushed ≡ true)

abbrev pub WritesFront : List ℕ → Output → Output → Type 0
WritesFront text w after = AppendsFront w.held after.held text × (after.faults ≡ counted w.faults)

abbrev pub WritesListing : Seen → Output → Output → Result (Unit {0}) ListingError → Type 0
WritesListing s w after (Ok u) = (s.live ≡ true) × (text : List ℕ) × IsListing s text × WritesWhole text w after
WritesListing s w after (Err listing_error.Broken) = (s.live ≡ false) × (after ≡ w)
WritesListing s w after (Err listing_error.OutOfMemory) = (s.live ≡ true) × (after ≡ w)
WritesListing s w after (Err listing_error.WriteFault) = (s.live ≡ true) × (text : List ℕ) × IsListing s text × WritesFront text w after

-- of the site's script
abbrev pub Exports : CatalogueData → Seen → List ℕ → Output → Output → Result (Unit {0}) ExportError → Type 0
Exports c s x w after (Ok u) = (text : List ℕ) × Tabulates c s x (Ok text) × WritesWhole text w after
Exports c s x w after (Err export_error.Unknown) = Tabulates c s x (Err table_error.Unknown) × (after ≡ w)
Exports c s x w after (Err export_error.NoAttributes) = Tabulates c s x (Err table_error.NoAttributes) × (after ≡ w)
Exports c s x w after (Err export_error.Broken) = Tabulates c s x (Err table_error.Broken) × (after ≡ w)
Exports c s x w after (Err (export_error.Raised e)) = Tabulates c s x (Err (table_error.Raised e)) × (after ≡ w)
Exports c s x w after (Err export_error.OutOfMemory) = after ≡ w
Exports c s x w after (Err export_error.WriteFault) = (text : List ℕ) × Tabulates c s x (Ok text) × WritesFront text w after

-- of the catalogue of the site's script
abbrev pub WritesTable : Seen → List ℕ → Output → Output → Result (Unit {0}) ExportError → Type 0
WritesTable s x w after r = (c : CatalogueData) × IsScriptOf s.script c × Exports c s x w after r
