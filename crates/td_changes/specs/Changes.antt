-- What a statement changed: how the base relvars differ just before and just after its place in the history.
use Rattle.std.specs.Prelude.{◌≡◌, ℕ, true, false, List, [], ◌∷◌, ◌++◌, Result, Ok, Err}
use Rattle.td_relations.specs.Deltas.{DeltaData}
use Rattle.td_stamps.specs.Entries.{stamp_of}
use Rattle.td_stamps.specs.declared.entry.Entry.{Entry}
use Rattle.td_stamps.specs.declared.entry.Stamp.{Stamp}
use Rattle.td_semantics.specs.Databases.{DatabaseData, stored_relvars}
use Rattle.td_semantics.specs.Differences.{AreDifferences}
use Rattle.td_replica.specs.Past.{HasNoPlace}
use Rattle.td_replica.specs.Seen.{Leaves, Seen, with_entries}
use Rattle.td_changes.specs.declared.ChangedError.{ChangedError}
use Rattle.td_changes.specs.declared.ChangedError.TheVariants as changed_error

-- the entry of the stamp, among those that are held; what the ones before it leave, what they leave with it, and the
-- exact difference of the two
pub record IsChangedBy (s : Seen) (at : Stamp) (changes : List (ℕ × DeltaData)) : Type 0 where
  pub before : List Entry
  pub entry : Entry
  pub behind : List Entry
  pub all : s.entries ≡ before ++ entry ∷ behind
  pub stamp : stamp_of entry ≡ at
  pub was : DatabaseData
  pub became : DatabaseData
  pub left_before : Leaves (with_entries s before) was
  pub left_after : Leaves (with_entries s (before ++ entry ∷ [])) became
  pub differ : AreDifferences (stored_relvars was.stored) (stored_relvars became.stored) changes

abbrev pub TellsChanges : Seen → Stamp → Result (List (ℕ × DeltaData)) ChangedError → Type 0
TellsChanges s at (Ok changes) = (s.live ≡ true) × IsChangedBy s at changes
TellsChanges s at (Err changed_error.Broken) = s.live ≡ false
TellsChanges s at (Err changed_error.NoPlace) = (s.live ≡ true) × HasNoPlace at s.entries
