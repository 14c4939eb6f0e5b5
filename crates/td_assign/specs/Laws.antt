-- The laws of statements.
use Rattle.std.specs.Prelude.{◌≡◌, ℕ, List}
use Rattle.std.specs.List.{Contains}
use Rattle.td_relations.specs.Deltas.{DeltaData}
use Rattle.td_meaning.specs.Mean.{Relvars}
use Rattle.td_semantics.specs.Databases.{DatabaseData, IsDatabase, IsLegal, Stored, stored_relvars}
use Rattle.td_semantics.specs.Differences.{AreDifferences}
use Rattle.td_semantics.specs.Footprints.{AgreeOnFootprint, IsTargetOfText}
use Rattle.td_semantics.specs.Steps.{Steps}
use Rattle.td_semantics.specs.declared.outcome.Outcome.{Outcome}
use Rattle.td_relvars.specs.Changed.{redone, undone}
use Rattle.td_assign.specs.Redoing.{AreOnce, CanRedo, CanUndo}

-- e takes a step of this outcome too, and it makes the differences that the step from d to f made
pub record StepsAlike (d f e : DatabaseData) (dialect : ℕ) (text : List ℕ) (o : Outcome) : Type 0 where
  pub after : DatabaseData
  pub step : Steps e dialect text o after
  pub differences : (ds : List (ℕ × DeltaData)) → AreDifferences (stored_relvars d.stored) (stored_relvars f.stored) ds → AreDifferences (stored_relvars e.stored) (stored_relvars after.stored) ds

-- legal databases that agree on the footprint of a text give it one outcome and the same differences
abbrev pub StepByFootprint : Type 0
StepByFootprint =
    (d e f : DatabaseData) (dialect : ℕ) (text : List ℕ) (o : Outcome) → IsDatabase d → IsDatabase e → IsLegal d → IsLegal e
    → AgreeOnFootprint d e dialect text → Steps d dialect text o f → StepsAlike d f e dialect text o

-- a statement changes its targets alone
abbrev pub ChangesTargets : Type 0
ChangesTargets =
    (d e : DatabaseData) (dialect : ℕ) (text : List ℕ) (o : Outcome) (n : ℕ) → Steps d dialect text o e → (IsTargetOfText d.catalogue dialect text n → ⊥)
    → stored_relvars e.stored n ≡ stored_relvars d.stored n

-- a statement leaves a database, of the same catalogue
abbrev pub StepKeepsDatabase : Type 0
StepKeepsDatabase =
    (d e : DatabaseData) (dialect : ℕ) (text : List ℕ) (o : Outcome) → IsDatabase d → Steps d dialect text o e → IsDatabase e × (e.catalogue ≡ d.catalogue)

-- a relvar that is not listed stays, whether changes are made or taken back
abbrev pub OnlyListedChange : Type 0
OnlyListedChange =
    (ds : List (ℕ × DeltaData)) (stored : Stored) (n : ℕ) → ((d : DeltaData) → Contains ds (n, d) → ⊥)
    → (stored_relvars (redone ds stored) n ≡ stored_relvars stored n)
    × (stored_relvars (undone ds stored) n ≡ stored_relvars stored n)

-- the differences of two databases of one catalogue, made on the first, give the second
abbrev pub RedoneLeadsOn : Type 0
RedoneLeadsOn =
    (old new : DatabaseData) (ds : List (ℕ × DeltaData)) → IsDatabase old → IsDatabase new
    → new.catalogue ≡ old.catalogue → AreDifferences (stored_relvars old.stored) (stored_relvars new.stored) ds
    → redone ds old.stored ≡ new.stored

-- and, taken back from the second, give the first
abbrev pub UndoneLeadsBack : Type 0
UndoneLeadsBack =
    (old new : DatabaseData) (ds : List (ℕ × DeltaData)) → IsDatabase old → IsDatabase new
    → new.catalogue ≡ old.catalogue → AreDifferences (stored_relvars old.stored) (stored_relvars new.stored) ds
    → undone ds new.stored ≡ old.stored

-- one list of differences leads relvars that have the same to relvars that have the same
abbrev pub GoAlike : Type 0
GoAlike =
    (old new other last : Relvars) (ds : List (ℕ × DeltaData))
    → AreDifferences old new ds → AreDifferences other last ds
    → (n : ℕ) → old n ≡ other n → new n ≡ last n

-- what these differences lead to can be taken back, and then made again
pub record GoesBothWays (old new : DatabaseData) (ds : List (ℕ × DeltaData)) : Type 0 where
  pub once : AreOnce ds
  pub can_undo : CanUndo new ds
  pub back : record new { stored = undone ds new.stored } ≡ old
  pub can_redo : CanRedo old ds
  pub on : record old { stored = redone ds old.stored } ≡ new

-- so do the differences that running a statement tells
abbrev pub DifferencesGoBothWays : Type 0
DifferencesGoBothWays =
    (old new : DatabaseData) (ds : List (ℕ × DeltaData)) → IsDatabase old → IsDatabase new
    → new.catalogue ≡ old.catalogue → AreDifferences (stored_relvars old.stored) (stored_relvars new.stored) ds
    → GoesBothWays old new ds
