-- A new site that comes back from where its journal stands, and goes on with it: or with one of the second version that
-- was made of it, where it was of the first.
use Rattle.std.specs.Prelude.{◌≡◌, ◌≢◌, ◌⊎◌, ℕ, zero, suc, List, Option, None, Some, take}
use Rattle.td_io.specs.Views.{Input, Output}
use Rattle.td_replica.specs.Seen.{Seen, IsSound}
use Rattle.td_frames.specs.declared.version.Version.{Version}
use Rattle.td_frames.specs.declared.version.Version.TheVariants.{First, Second}
use Rattle.td_journal.specs.Keepers.{IsJournal, IsJournalOf}
use Rattle.td_journal.specs.Keeping.{Starts}
use Rattle.td_journal.specs.Reopening.{Retakes, RetakesNot}
use Rattle.td_journal.specs.declared.reopening.ReopenError.{ReopenError}
use Rattle.td_journal.specs.declared.reopening.ReopenError.TheVariants as reopen_error
use Rattle.td_journal.specs.declared.stores.StoreError.{StoreError}
use Rattle.td_journal.specs.declared.stores.StoreError.TheVariants.{OutOfMemory, JournalFile}

-- of the bytes that a journal has, where these are known, so many are kept
abbrev pub IsCutTo : ℕ → Option (List ℕ) → Option (List ℕ) → Type 0
IsCutTo whole None held = Unit {0}
IsCutTo whole (Some bytes) None = ⊥
IsCutTo whole (Some bytes) (Some left) = left ≡ take whole bytes

-- The journal of what the site holds was begun beside, where nothing stood, and was handed on; then it took the place
-- of the old one.
abbrev pub IsMadeAnew : Option (List ℕ) → Seen → Output → Type 0
IsMadeAnew kept s w = (empty : Output) × IsCutTo 0 kept empty.held × (begun : Output) × Starts s empty begun × (w.held ≡ begun.held)

-- The writer goes on with what stands whole of a journal. Where that is nothing, the journal of the site was begun;
-- where it is of the first version, that was made anew.
abbrev pub IsGoneOnWith : Version → ℕ → Option (List ℕ) → Seen → Output → Type 0
IsGoneOnWith First whole kept s w = IsMadeAnew kept s w
IsGoneOnWith Second zero kept s w = (cut : Output) × IsCutTo 0 kept cut.held × Starts s cut w
IsGoneOnWith Second (suc n) kept s w = IsCutTo (suc n) kept w.held

-- a new site has taken what its journal says, and goes on with it
pub record GoesOn (kept : Option (List ℕ)) (s after : Seen) (w : Output) : Type 0 where
  pub failures : ℕ
  pub read : Input
  pub whole : ℕ
  pub version : Version
  pub reopens : Retakes s (record { left = kept; failures = failures }) read after whole version
  pub goes_on : IsGoneOnWith version whole kept after w

-- what was read is refused, or there was no memory for it
pub record IsRefused (kept : Option (List ℕ)) (s : Seen) (error : ReopenError) : Type 0 where
  pub failures : ℕ
  pub read : Input
  pub refuses : RetakesNot s (record { left = kept; failures = failures }) read error

-- neither memory nor the reader was wanting
abbrev pub IsOfBytes : ReopenError → Type 0
IsOfBytes error = (error ≢ reopen_error.OutOfMemory) × (error ≢ reopen_error.ReadFault)

-- Why a site does not go on with its journal: that could not be opened, read, cut, replaced or begun, or its bytes are
-- refused; or there was no memory to open it or one beside, or for what was read.
abbrev pub KeepsNot : (StoreError → Type 0) → Option (List ℕ) → Seen → StoreError → Type 0
KeepsNot Fails kept s OutOfMemory = Fails OutOfMemory ⊎ IsRefused kept s reopen_error.OutOfMemory
KeepsNot Fails kept s JournalFile = Fails JournalFile ⊎ ((error : ReopenError) × IsOfBytes error × IsRefused kept s error)

-- A new site that came back from a front of the journal of another one, of its script and number, and of whatever
-- version, writes behind the journal of what it holds: so its journal is that again, as after a start.
abbrev pub KeptHasJournal : Type 0
KeptHasJournal =
    (v : Version) (s new after : Seen) (bytes front : List ℕ) (k : ℕ) (w : Output) → IsSound s → IsJournalOf v s bytes → front ≡ take k bytes
    → new.script ≡ s.script → new.site ≡ s.site → IsSound after → GoesOn (Some front) new after w → (all : List ℕ) × (w.held ≡ Some all) × IsJournal after all
