-- What preparing a statement gives, before anything is changed.
use Rattle.std.specs.Prelude.{◌≡◌, ℕ, List, None, Some, Option, Result, Ok, Err}
use Rattle.td_values.specs.declared.raises.Raise.{Raise}
use Rattle.td_algebra.specs.declared.errors.Stop.{Stop}
use Rattle.td_relations.specs.Deltas.{DeltaData}
use Rattle.td_headings.specs.declared.defined.Test.{Test}
use Rattle.td_headings.specs.declared.statement.TypedAssignment.{TypedAssignment}
use Rattle.td_semantics.specs.Raises.{stop_of}
use Rattle.td_semantics.specs.Databases.{DatabaseData, stored_relvars}
use Rattle.td_semantics.specs.Given.{with_given}
use Rattle.td_semantics.specs.Differences.{AreDifferences}
use Rattle.td_assign.specs.ForProofs.Given.{AreChanges, assigned_by}
use Rattle.td_assign.specs.ForProofs.Turning.{Gives}
use Rattle.td_assign.specs.ForProofs.Lists.{given_to}
use Rattle.td_headings.specs.declared.statement.TypedStatement.{TypedStatement}
use Rattle.td_semantics.specs.Sources.{chosen_assignments}
use Rattle.td_semantics.specs.Steps.{IsRead, Steps, TellsTest, failing_with, with_all}
use Rattle.td_assign.specs.declared.changes.Change.{Change}
use Rattle.td_semantics.specs.declared.outcome.Outcome.{Outcome}
use Rattle.td_semantics.specs.declared.outcome.Outcome.TheVariants.{Done, Raised}
use Rattle.td_assign.specs.declared.running.Prepared.{Prepared}
use Rattle.td_assign.specs.declared.running.Prepared.TheVariants.{Changes, InPlace, Refused}

abbrev pub failing_after : DatabaseData → List Change → Option (Test × Option Stop)
failing_after d cs = failing_with d (given_to cs)

-- changes that may be made, and the differences that they make
pub record MayChange (d : DatabaseData) (cs : List Change) (ds : List (ℕ × DeltaData)) : Type 0 where
  pub given : AreChanges d.catalogue cs
  pub passes : failing_after d cs ≡ None
  pub differences : AreDifferences (stored_relvars d.stored) (stored_relvars (with_given (given_to cs) d.stored)) ds

-- with these changes the tests decide
abbrev pub IsJudged : DatabaseData → List Change → Prepared → Type 0
IsJudged d cs (Changes v ds) = (v.items ≡ cs) × MayChange d cs ds.items
IsJudged d cs (InPlace n x) = ⊥
IsJudged d cs (Refused o) = (t : Test) × (e : Option Stop) × (failing_after d cs ≡ Some (t, e)) × TellsTest d.catalogue t e o

-- a source raises, or a test decides
pub data Refuses (d : DatabaseData) (xs : List TypedAssignment) : Outcome → Type 0 where
  by_source : {e : Raise} → assigned_by d xs ≡ Err (stop_of e) → Refuses d xs (Raised e)
  by_test : (cs : List Change) {o : Outcome} → assigned_by d xs ≡ Ok (given_to cs) → IsJudged d cs (Refused o) → Refuses d xs o

-- what assignments come to
abbrev pub AreAssignedTo : DatabaseData → List TypedAssignment → Prepared → Type 0
AreAssignedTo d xs (Changes v ds) = (assigned_by d xs ≡ Ok (given_to v.items)) × MayChange d v.items ds.items
AreAssignedTo d xs (InPlace n x) = Gives d xs n x
AreAssignedTo d xs (Refused o) = Refuses d xs o

-- what decides which assignments a statement makes
abbrev pub chosen_by : DatabaseData → TypedStatement → Result (List TypedAssignment) Stop
chosen_by d x = chosen_assignments d.catalogue (stored_relvars d.stored) x

-- what a statement comes to: what the assignments do that it makes, or its condition raises
pub data IsMade (d : DatabaseData) (x : TypedStatement) (m : Prepared) : Type 0 where
  by_assignments : (xs : List TypedAssignment) → chosen_by d x ≡ Ok xs → AreAssignedTo d xs m → IsMade d x m
  by_error : (e : Raise) → chosen_by d x ≡ Err (stop_of e) → m ≡ Refused (Raised e) → IsMade d x m

-- the relvar is changed so, by the assignments that the statement makes
abbrev pub MakesTurn : DatabaseData → TypedStatement → ℕ → DeltaData → Type 0
MakesTurn d x n y = (xs : List TypedAssignment) × (chosen_by d x ≡ Ok xs) × Gives d xs n y

-- what a text comes to
abbrev pub IsPrepared : DatabaseData → ℕ → List ℕ → Prepared → Type 0
IsPrepared d dialect text (Changes v ds) = Steps d dialect text Done (with_all d (given_to v.items)) × MayChange d v.items ds.items
IsPrepared d dialect text (InPlace n y) = (x : TypedStatement) × IsRead d.catalogue dialect text x × MakesTurn d x n y
IsPrepared d dialect text (Refused o) = Steps d dialect text o d

-- nothing has to be changed where it is, to be judged
abbrev pub IsWhole : Prepared → Type 0
IsWhole (InPlace n x) = ⊥
IsWhole p = Unit {0}

abbrev pub AreAssignedWhole : DatabaseData → List TypedAssignment → Prepared → Type 0
AreAssignedWhole d xs p = AreAssignedTo d xs p × IsWhole p

abbrev pub IsMadeWhole : DatabaseData → TypedStatement → Prepared → Type 0
IsMadeWhole d x p = IsMade d x p × IsWhole p

abbrev pub IsPreparedWhole : DatabaseData → ℕ → List ℕ → Prepared → Type 0
IsPreparedWhole d dialect text p = IsPrepared d dialect text p × IsWhole p
