-- What is known of relvars that were changed.
use Rattle.std.specs.Prelude.{ℕ, List}
use Rattle.td_relations.specs.Deltas.{DeltaData}
use Rattle.td_headings.specs.Catalogues.{CatalogueData}
use Rattle.td_meaning.specs.Mean.{Relvars}
use Rattle.td_semantics.specs.Differences.{LeadOver}
use Rattle.td_semantics.specs.Tests.{AreLegal}

-- every test was true of some relvars, and these are the changes that lead from them to those that are there now
pub record PassedBefore (c : CatalogueData) (now : Relvars) (changes : List (ℕ × DeltaData)) : Type 0 where
  pub before : Relvars
  pub legal : AreLegal c before
  pub lead : LeadOver before now changes
