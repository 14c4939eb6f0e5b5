-- What each step of opening a script gives.
use Rattle.std.specs.Prelude.{◌≡◌, Option, None, Some, Result, Ok, Err}
use Rattle.td_values.specs.Headings.{Header}
use Rattle.td_values.specs.Rows.{RowsData}
use Rattle.td_typed_trees.specs.declared.tree.Typed.{Typed}
use Rattle.td_algebra.specs.declared.errors.Stop.{Stop}
use Rattle.td_headings.specs.Catalogues.{CatalogueData}
use Rattle.td_headings.specs.declared.defined.Test.{Test}
use Rattle.td_semantics.specs.Raises.{Tells, stop_of}
use Rattle.td_semantics.specs.declared.failure.Failure.{Failure}
use Rattle.td_semantics.specs.declared.failure.Failure.TheVariants as failure
use Rattle.td_semantics.specs.Reports.{title}
use Rattle.td_semantics.specs.Tests.{failing}
use Rattle.td_semantics.specs.Databases.{DatabaseData, Stored, stored_relvars}
use Rattle.td_semantics.specs.Openings.{opening, relation_in}
use Rattle.td_semantics.specs.declared.error.ScriptError.{ScriptError}
use Rattle.td_semantics.specs.declared.error.ScriptError.TheVariants as refusal

-- the value of an INIT that is there
abbrev pub TellsInit : CatalogueData → Stored → Option (Typed × Header) → Result RowsData Failure → Type 0
TellsInit c stored None a = ⊥
TellsInit c stored (Some v) a = Tells a (relation_in c stored v.0)

-- what is stored after a step that may raise
abbrev pub Leaves : Result (Unit {0}) Failure → Stored → Result Stored Stop → Type 0
Leaves (Ok u) new m = m ≡ Ok new
Leaves (Err (failure.Raised e)) new m = m ≡ Err (stop_of e)
Leaves (Err failure.OutOfMemory) new m = Unit {0}

-- the opening relvars of a catalogue
abbrev pub Fills : CatalogueData → Result DatabaseData Failure → Type 0
Fills c (Ok d) = (d.catalogue ≡ c) × (opening c ≡ Ok d.stored)
Fills c (Err (failure.Raised e)) = opening c ≡ Err (stop_of e)
Fills c (Err failure.OutOfMemory) = Unit {0}

-- the first test that fails of a database
abbrev pub first_in : DatabaseData → Option (Test × Option Stop)
first_in d = failing d.catalogue (stored_relvars d.stored) d.catalogue.tests

-- the database where its tests are true
abbrev pub Judges : DatabaseData → Result DatabaseData ScriptError → Type 0
Judges d (Ok e) = (e ≡ d) × (first_in d ≡ None)
Judges d (Err refusal.Syntax) = ⊥
Judges d (Err refusal.IllTyped) = ⊥
Judges d (Err (refusal.OpeningRaised e)) = ⊥
Judges d (Err (refusal.OpeningBroken b)) = (t : Test) × (o : Option Stop) × (first_in d ≡ Some (t, o)) × (b ≡ title d.catalogue t)
Judges d (Err refusal.OutOfMemory) = Unit {0}
