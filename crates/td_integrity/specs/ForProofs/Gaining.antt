-- How a constraint that was true before changes is judged after them.
use Rattle.std.specs.Prelude.{◌≡◌, ℕ, Bool, true, Option, None, Some, Result, Ok}
use Rattle.std.specs.Borrow.{Bor}
use Rattle.td_values.specs.Data.{no_attrs}
use Rattle.td_values.specs.Rows.{RowsData}
use Rattle.td_typed_trees.specs.declared.expression.Expression.{Expression}
use Rattle.td_algebra.specs.Functions.{matching_of, not_matching_of}
use Rattle.td_algebra.specs.Raising.{and_then}
use Rattle.td_algebra.specs.declared.errors.Stop.{Stop}
use Rattle.td_operators.specs.Values.{truth_of}
use Rattle.td_headings.specs.Catalogues.{CatalogueData}
use Rattle.td_meaning.specs.Mean.{Relvars}
use Rattle.td_incremental.specs.Growth.{narrowed}
use Rattle.td_incremental.specs.Laws.{has_none}
use Rattle.td_semantics.specs.Differences.{LeadOver}
use Rattle.td_semantics.specs.Stored.{AreStored}
use Rattle.td_semantics.specs.Trees.{tree_means}
use Rattle.td_integrity.specs.ForProofs.Changed.{Changes}
use Rattle.td_integrity.specs.declared.losses.Losses.{Losses}
use Rattle.td_integrity.specs.declared.ways.Way.{Way}
use Rattle.td_integrity.specs.declared.ways.Way.TheVariants.{Stays, Over, Lost, Whole}

-- what the constraint is over these relvars
abbrev pub truth_over : CatalogueData → Expression → Relvars → Result Bool Stop
truth_over c x relvars = and_then (tree_means c relvars x.tree no_attrs) truth_of

-- the constraint may be judged over the relvars where the one at n has these tuples alone
pub record IsNarrowed (c : CatalogueData) (x : Expression) (n : ℕ) (i : RowsData) (now : Relvars) : Type 0 where
  pub same : truth_over c x now ≡ truth_over c x (narrowed n i now)
  pub stored : AreStored c now → AreStored c (narrowed n i now)

-- the constraint is whether no tuple of the relvar that refers has a part that was lost
pub record IsLost (c : CatalogueData) (x : Expression) (l : Losses) (now : Relvars) : Type 0 where
  pub one : RowsData
  pub other : RowsData
  pub one_is : now l.referring ≡ Ok one
  pub other_is : now l.referred ≡ Ok other
  pub told : truth_over c x now ≡ Ok (has_none (matching_of (not_matching_of l.parts other) one))

-- this is what it is after such changes where it was true before them
abbrev pub IsWay : CatalogueData → Expression → Changes → Way → Type 0
IsWay c x changes Stays = (before now : Relvars) → AreStored c now → LeadOver before now changes → truth_over c x before ≡ Ok true → truth_over c x now ≡ Ok true
IsWay c x changes (Over n i) = (before now : Relvars) → LeadOver before now changes → truth_over c x before ≡ Ok true → IsNarrowed c x n i.now now
IsWay c x changes (Lost l) = (before now : Relvars) → AreStored c now → LeadOver before now changes → truth_over c x before ≡ Ok true → IsLost c x l now
IsWay c x changes Whole = Unit {0}

-- where no changes are known, all is judged
abbrev pub AreWays : CatalogueData → Expression → Option (Bor Changes) → Way → Type 0
AreWays c x None w = w ≡ Whole
AreWays c x (Some changes) w = IsWay c x changes.now w
