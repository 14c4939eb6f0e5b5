-- What a site keeps of a step: its outcome, the differences that it made, its targets and its footprint, and whether it
-- is an insertion that put in each of its tuples; and from where its history began.
use Rattle.std.specs.Prelude.{◌≡◌, ℕ, IsTrue, [], Result, Ok, Err}
use Rattle.td_algebra.specs.declared.errors.Stop.{Stop}
use Rattle.td_assign.specs.Inserting.{PutsIn}
use Rattle.td_assign.specs.declared.ran.Ran.{Ran}
use Rattle.td_headings.specs.Catalogues.{CatalogueData}
use Rattle.td_headings.specs.Reached.{AreThose}
use Rattle.td_stamps.specs.declared.entry.Entry.{Entry}
use Rattle.td_semantics.specs.Databases.{DatabaseData, IsDatabase, IsLegal, Stored, stored_relvars}
use Rattle.td_semantics.specs.Differences.{AreDifferences}
use Rattle.td_semantics.specs.Footprints.{IsInFootprint, IsTargetOfText}
use Rattle.td_semantics.specs.Openings.{opening}
use Rattle.td_semantics.specs.Steps.{Steps}

-- the record is of the entry's step
pub record Notes (d : DatabaseData) (e : Entry) (r : Ran) (after : DatabaseData) : Type 0 where
  pub step : Steps d e.dialect e.text r.outcome after
  pub delta : AreDifferences (stored_relvars d.stored) (stored_relvars after.stored) r.delta.items
  pub targets : AreThose (IsTargetOfText d.catalogue e.dialect e.text) r.names.targets.items
  pub footprint : AreThose (IsInFootprint d.catalogue e.dialect e.text) r.names.footprint.items
  pub puts : IsTrue r.puts_in_all → PutsIn d.catalogue e.dialect e.text r.delta.items

-- a database in which every test is true
abbrev pub IsLegalDatabase : DatabaseData → Type 0
IsLegalDatabase d = IsDatabase d × IsLegal d

-- databases of one catalogue that have the same at the place
abbrev pub AgreeAt : DatabaseData → DatabaseData → ℕ → Type 0
AgreeAt d e n = (d.catalogue ≡ e.catalogue) × (stored_relvars d.stored n ≡ stored_relvars e.stored n)

-- the database that a catalogue opens, as a function
abbrev pub or_none : Result Stored Stop → Stored
or_none (Ok stored) = stored
or_none (Err e) = []

abbrev pub opened_by : CatalogueData → DatabaseData
opened_by c = record { catalogue = c; stored = or_none (opening c) }

-- of an entry, in histories that began with the database
abbrev pub IsFootprintOf : DatabaseData → Entry → ℕ → Type 0
IsFootprintOf o e n = IsInFootprint o.catalogue e.dialect e.text n

abbrev pub AreTargetsOf : DatabaseData → Entry → ℕ → Type 0
AreTargetsOf o e n = IsTargetOfText o.catalogue e.dialect e.text n
