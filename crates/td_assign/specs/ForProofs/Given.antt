-- What holds of changes while sources are evaluated.
use Rattle.std.specs.Prelude.{◌≡◌, ◌==◌, ℕ, Bool, List, [], ◌∷◌, None, Result, Ok, Err, Vec}
use Rattle.std.specs.List.{All}
use Rattle.td_values.specs.Rows.{AreRows, RowsData}
use Rattle.td_syntax.specs.declared.script.Action.{Action}
use Rattle.td_algebra.specs.declared.errors.Stop.{Stop}
use Rattle.td_relations.specs.Deltas.{DeltaData, IsDifference}
use Rattle.td_headings.specs.Catalogues.{CatalogueData}
use Rattle.td_meaning.specs.Mean.{Relvars}
use Rattle.td_headings.specs.Statements.{IsAssignment}
use Rattle.td_headings.specs.declared.statement.TypedAssignment.{TypedAssignment}
use Rattle.td_semantics.specs.Raises.{stop_of}
use Rattle.td_semantics.specs.declared.failure.Failure.{Failure}
use Rattle.td_semantics.specs.declared.failure.Failure.TheVariants.{Raised, OutOfMemory}
use Rattle.td_semantics.specs.Databases.{Belongs, DatabaseData, stored_relvars}
use Rattle.td_semantics.specs.Given.{Given, nothing_given}
use Rattle.td_semantics.specs.Sources.{sources}
use Rattle.td_assign.specs.ForProofs.Lists.{given, given_to}
use Rattle.td_assign.specs.declared.changes.Change.{Change}

-- it is some action, typed
abbrev pub IsAssigned : CatalogueData → TypedAssignment → Type 0
IsAssigned c x = (a : Action) × IsAssignment c a x

abbrev pub AreAssigned : CatalogueData → List TypedAssignment → Type 0
AreAssigned c xs = All (IsAssigned c) xs

-- what the assignments give to their targets
abbrev pub assigned_by : DatabaseData → List TypedAssignment → Result Given Stop
assigned_by d xs = sources d.catalogue (stored_relvars d.stored) nothing_given xs

-- it is of this target
abbrev pub is_target : ℕ → Change → Bool
is_target n c = c.target == n

-- each target is a base relvar, and is given a relation of its heading
abbrev pub IsChange : CatalogueData → Change → Type 0
IsChange c x = Belongs c x.target x.relation

-- no target is given two relations
abbrev pub AreDistinct : List Change → Type 0
AreDistinct [] = Unit {0}
AreDistinct (x ∷ xs) = (given_to xs x.target ≡ None) × AreDistinct xs

pub record AreChanges (c : CatalogueData) (xs : List Change) : Type 0 where
  pub each : All (IsChange c) xs
  pub distinct : AreDistinct xs

-- the relations, of one heading and with ascending tuples, differ by this
pub record Turns (before after : RowsData) (d : DeltaData) : Type 0 where
  pub one_heading : before.heading ≡ after.heading
  pub was_rows : AreRows before.heading before.tuples
  pub is_rows : AreRows after.heading after.tuples
  pub apart : before ≡ after → ⊥
  pub difference : IsDifference before after d

-- the target had another relation, which this turns into the one that it is given
abbrev pub DiffersBy : Relvars → Change → DeltaData → Type 0
DiffersBy old x d = (before : RowsData) × (old x.target ≡ Ok before) × Turns before x.relation d

-- the error that stands; want of memory tells nothing
abbrev pub Stands : {A : Type 0} → Failure → Result A Stop → Type 0
Stands (Raised e) m = m ≡ Err (stop_of e)
Stands OutOfMemory m = Unit {0}

-- with the target's relation, or the error
abbrev pub GivesMore : {E : Type 0} → Result RowsData Stop → ℕ → List Change → Result E Failure → List Change → Type 0
GivesMore m n old (Ok u) new = (r : RowsData) × (m ≡ Ok r) × (new ≡ given n r old)
GivesMore m n old (Err f) new = Stands f m

-- the changes, or the error
abbrev pub TellsChanges : {Z : Type 0} → Result (Vec Change Z) Failure → Result Given Stop → Type 0
TellsChanges (Ok v) m = m ≡ Ok (given_to v.items)
TellsChanges (Err f) m = Stands f m
