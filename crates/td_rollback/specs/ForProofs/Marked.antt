-- Marks on old and new entries.
use Rattle.std.specs.Prelude.{◌≡◌, ◌⊎◌, ℕ, Bool, true, false, List, [], ◌∷◌}
use Rattle.std.specs.List.{Contains}
use Rattle.td_stamps.specs.declared.entry.Entry.{Entry}
use Rattle.td_stamps.specs.Sets.{has}
use Rattle.td_rollback.specs.Parts.{AreMarked, CommutesWith, unmarked}

-- of the new entries those are flagged that are not old
pub data AreFlagged : List Entry → List Bool → List Entry → Type 0 where
  no_more : AreFlagged [] [] []
  new_one : {flags : List Bool} {es fs : List Entry} {e : Entry} → has es e ≡ false → AreFlagged es flags fs → AreFlagged es (true ∷ flags) (e ∷ fs)
  old_one : {flags : List Bool} {es fs : List Entry} {e : Entry} → AreFlagged es flags fs → AreFlagged (e ∷ es) (false ∷ flags) (e ∷ fs)

-- the marks of all, by those of the old ones: what is flagged is marked
abbrev pub with_flagged : List Bool → List Bool → List Bool
with_flagged [] marks = []
with_flagged (true ∷ flags) marks = true ∷ with_flagged flags marks
with_flagged (false ∷ flags) [] = false ∷ with_flagged flags []
with_flagged (false ∷ flags) (b ∷ marks) = b ∷ with_flagged flags marks

-- an entry that is not marked commutes with each of these, and with each marked one before it
pub record MarkConflicts (Commute : Entry → Entry → Type 0) (These : Entry → Type 0) (marks : List Bool) (es : List Entry) : Type 0 where
  pub within : AreMarked Commute marks es
  pub with_these : (e : Entry) → These e → CommutesWith Commute e (unmarked marks es)

-- marks for the old entries and for all: each marked one commutes with the unmarked ones behind it
pub record AreParted (Commute : Entry → Entry → Type 0) (es fs : List Entry) (bs cs : List Bool) : Type 0 where
  pub flags : List Bool
  pub flagged : AreFlagged es flags fs
  pub marks_are : cs ≡ with_flagged flags bs
  pub old : AreMarked Commute bs es
  pub new : AreMarked Commute cs fs

-- each of the new entries is old, or has its targets among the places
abbrev pub AreAmong : (Entry → ℕ → Type 0) → List Entry → List Entry → List ℕ → Type 0
AreAmong Target es fs places = (e : Entry) (n : ℕ) → has fs e ≡ true → Target e n → (has es e ≡ true) ⊎ Contains places n
