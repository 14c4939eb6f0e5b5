-- A statement of one assignment whose target is changed where it stands.
use Rattle.std.specs.Prelude.{◌≡◌, ℕ, List, [], ◌∷◌, Option, None, Some, Result, Ok, Err}
use Rattle.std.specs.FinSet as set
use Rattle.std.specs.List.{All}
use Rattle.td_values.specs.Rows.{AreRows, RowsData}
use Rattle.td_relations.specs.Deltas.{DeltaData, IsDifference, inverse_of}
use Rattle.td_relations.specs.Sets.{IsRelation, body}
use Rattle.td_algebra.specs.Functions.{union_of}
use Rattle.td_algebra.specs.declared.errors.Stop.{Stop}
use Rattle.td_headings.specs.declared.defined.Test.{Test}
use Rattle.td_headings.specs.declared.statement.TypedAssignment.{TypedAssignment}
use Rattle.td_semantics.specs.Databases.{Belongs, DatabaseData, stored_relvars}
use Rattle.td_semantics.specs.Differences.{AreDifferences}
use Rattle.td_semantics.specs.Given.{gives, nothing_given}
use Rattle.td_semantics.specs.Sources.{source_means}
use Rattle.td_semantics.specs.Reports.{IsReport}
use Rattle.td_semantics.specs.Steps.{TellsTest}
use Rattle.td_semantics.specs.Tests.{failing}
use Rattle.td_semantics.specs.declared.broken.TestFailure.{TestFailure}
use Rattle.td_semantics.specs.declared.failure.Failure.{Failure}
use Rattle.td_semantics.specs.declared.outcome.Outcome.{Outcome}
use Rattle.td_semantics.specs.declared.outcome.Outcome.TheVariants.{Done}
use Rattle.td_relvars.specs.Changed.{change, changed, with_change}
use Rattle.td_relvars.specs.Ways.{CanGoBack, WayBackData}
use Rattle.td_assign.specs.ForProofs.Given.{Stands, assigned_by}

-- the relvar has a relation, of whose heading the tuples are
pub record Adds (d : DatabaseData) (n : ℕ) (s : RowsData) : Type 0 where
  pub before : RowsData
  pub has : stored_relvars d.stored n ≡ Ok before
  pub heading : s.heading ≡ before.heading

-- what the source means alone
abbrev pub means_alone : DatabaseData → TypedAssignment → Result RowsData Stop
means_alone d a = source_means d.catalogue (stored_relvars d.stored) nothing_given a

-- the source is its target united with these, or raises; of another form nothing is told
abbrev pub TellsAddition : DatabaseData → TypedAssignment → Result (Option RowsData) Failure → Type 0
TellsAddition d a (Ok None) = Unit {0}
TellsAddition d a (Ok (Some s)) = (adds : Adds d a.target s) × (means_alone d a ≡ Ok (union_of adds.before s))
TellsAddition d a (Err f) = Stands f (means_alone d a)

-- the change puts in what the relvar lacks of s, and takes nothing out
pub record IsGrowth (d : DatabaseData) (n : ℕ) (s : RowsData) (x : DeltaData) : Type 0 where
  pub before : RowsData
  pub has : stored_relvars d.stored n ≡ Ok before
  pub rows : AreRows before.heading before.tuples
  pub new_rows : AreRows x.inserted.heading x.inserted.tuples
  pub inserted : IsRelation before.heading (set.difference (body s) (body before)) x.inserted
  pub deleted : IsRelation before.heading set.empty x.deleted

-- the change leads from what the relvar has to another relation, and is exactly what differs; it changes nothing where
-- it is empty
pub record IsExact (d : DatabaseData) (n : ℕ) (x : DeltaData) : Type 0 where
  pub before : RowsData
  pub has : stored_relvars d.stored n ≡ Ok before
  pub rows : AreRows before.heading before.tuples
  pub new_rows : AreRows x.inserted.heading x.inserted.tuples
  pub difference : IsDifference before (changed before x) x

-- what comes of it belongs to the relvar
pub record MayTurn (d : DatabaseData) (n : ℕ) (x : DeltaData) : Type 0 where
  pub exact : IsExact d n x
  pub belongs : Belongs d.catalogue n (changed exact.before x)

-- the assignment gives its target what the change makes of it, or raises; of another one nothing is told
abbrev pub TellsAlone : DatabaseData → TypedAssignment → Result (Option DeltaData) Failure → Type 0
TellsAlone d a (Ok None) = Unit {0}
TellsAlone d a (Ok (Some x)) = (may : MayTurn d a.target x) × (means_alone d a ≡ Ok (changed may.exact.before x))
TellsAlone d a (Err f) = Stands f (means_alone d a)

-- assignments give one relvar what its change makes of it
abbrev pub Gives : DatabaseData → List TypedAssignment → ℕ → DeltaData → Type 0
Gives d xs n x = (may : MayTurn d n x) × (assigned_by d xs ≡ Ok (gives n (changed may.exact.before x) nothing_given))

abbrev pub TellsTurn : DatabaseData → List TypedAssignment → Result (Option (ℕ × DeltaData)) Failure → Type 0
TellsTurn d xs (Ok None) = Unit {0}
TellsTurn d xs (Ok (Some p)) = Gives d xs p.0 p.1
TellsTurn d xs (Err f) = Stands f (assigned_by d xs)

-- the first test that is false or raises after the change
abbrev pub failing_turned : DatabaseData → ℕ → DeltaData → Option (Test × Option Stop)
failing_turned d n x = failing d.catalogue (stored_relvars (change n x d.stored)) d.catalogue.tests

-- the change stays where no test fails, and else nothing is changed
pub data IsTurned (d : DatabaseData) (n : ℕ) (x : DeltaData) : Outcome → List (ℕ × DeltaData) → DatabaseData → Type 0 where
  stays : {ds : List (ℕ × DeltaData)}
      → failing_turned d n x ≡ None
      → AreDifferences (stored_relvars d.stored) (stored_relvars (change n x d.stored)) ds
      → IsTurned d n x Done ds (with_change n x d)
  goes : {t : Test} {e : Option Stop} {o : Outcome}
      → failing_turned d n x ≡ Some (t, e)
      → TellsTest d.catalogue t e o
      → IsTurned d n x o [] d

-- the change puts something in or takes something out
abbrev pub ChangesSome : DeltaData → Type 0
ChangesSome x = (body x.inserted ≡ set.empty) × (body x.deleted ≡ set.empty) → ⊥

-- the list has one change, by which a relvar may be turned
pub record IsOneTurn (d : DatabaseData) (changes : List (ℕ × DeltaData)) : Type 0 where
  pub relvar : ℕ
  pub delta : DeltaData
  pub one : changes ≡ (relvar, delta) ∷ []
  pub turns : MayTurn d relvar delta
  pub some : ChangesSome delta

-- none of the changes takes a tuple out
abbrev pub TakesNothing : List (ℕ × DeltaData) → Type 0
TakesNothing changes = All (λ (p : ℕ × DeltaData). body p.1.deleted ≡ set.empty) changes

-- the change was made where no test fails, and else nothing is changed
abbrev pub IsTried : {E : Type 0} → DatabaseData → List (ℕ × DeltaData) → Result (Option TestFailure) E → DatabaseData → Type 0
IsTried d changes (Ok None) e = (n : ℕ) × (x : DeltaData) × (changes ≡ (n, x) ∷ []) × (failing_turned d n x ≡ None) × (e ≡ with_change n x d)
IsTried d changes (Ok (Some f)) e = (n : ℕ) × (x : DeltaData) × (changes ≡ (n, x) ∷ []) × IsReport d.catalogue (failing_turned d n x) (Some f) × (e ≡ d)
IsTried d changes (Err f) e = e ≡ d

-- the change led from d to e, and back; by the way too
pub record CameFrom (d : DatabaseData) (p : ℕ × DeltaData) (way : WayBackData) (e : DatabaseData) : Type 0 where
  pub can_go : CanGoBack e p.0 p.1 way
  pub back : with_change p.0 (inverse_of p.1) e ≡ d
