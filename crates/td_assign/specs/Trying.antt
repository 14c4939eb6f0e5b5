-- What a statement would do to a database that stays as it is.
use Rattle.std.specs.Prelude.{ℕ, IsTrue, List}
use Rattle.td_headings.specs.Reached.{AreThose}
use Rattle.td_semantics.specs.Databases.{DatabaseData, stored_relvars}
use Rattle.td_semantics.specs.Differences.{AreDifferences}
use Rattle.td_semantics.specs.Footprints.{IsInFootprint, IsTargetOfText}
use Rattle.td_semantics.specs.Steps.{Steps}
use Rattle.td_assign.specs.Inserting.{PutsIn}
use Rattle.td_assign.specs.declared.ran.Ran.{Ran}

-- the text steps to another database with this outcome, these differences, and these targets and footprint
pub record WouldRun (d : DatabaseData) (dialect : ℕ) (text : List ℕ) (r : Ran) : Type 0 where
  pub after : DatabaseData
  pub step : Steps d dialect text r.outcome after
  pub delta : AreDifferences (stored_relvars d.stored) (stored_relvars after.stored) r.delta.items
  pub targets : AreThose (IsTargetOfText d.catalogue dialect text) r.names.targets.items
  pub footprint : AreThose (IsInFootprint d.catalogue dialect text) r.names.footprint.items
  pub puts : IsTrue r.puts_in_all → PutsIn d.catalogue dialect text r.delta.items
