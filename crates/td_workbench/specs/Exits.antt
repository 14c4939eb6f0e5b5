-- The exit status of the program, and what it puts where.
use Rattle.std.specs.Prelude.{◌≡◌, ◌⊎◌, ℕ, Bool, true, false, List, ◌++◌, codes, string_bytes, Result, Ok, Err}
use Rattle.td_io.specs.Views.{Input, Output}
use Rattle.td_listings.specs.Writings.{WritesFront}
use Rattle.td_journal.specs.declared.stores.StoreError.{StoreError}
use Rattle.td_answers.specs.Asking.{LinkRequest}
use Rattle.td_workbench.specs.Journals.{JournaledEnds, KeeperSites, Kept}
use Rattle.td_workbench.specs.Programs.{InRange, ProgramEnds}
use Rattle.td_workbench.specs.Runs.{Workbench}
use Rattle.td_workbench.specs.Streams.{WritesText}
use Rattle.td_workbench.specs.declared.journaled.Stopped.{Stopped}
use Rattle.td_workbench.specs.declared.journaled.Stopped.TheVariants.{JournalFile, Run}
use Rattle.td_workbench.specs.declared.opening.Options.{Options}
use Rattle.td_workbench.specs.declared.run.Ended.{Ended}

-- 0 where the script was accepted and its lines were run to their end
abbrev pub status_of : Result Bool Ended → ℕ
status_of (Ok true) = 0
status_of (Ok false) = 1
status_of (Err e) = 1

-- what the standard streams came to: the input, the output and the output of faults
pub record Standard : Type 0 where
  pub input : Input
  pub output : Output
  pub faults : Output

-- the words gave options, and the program was run by them
pub record RunsBy {S L : Type 0} (b : Workbench S L) (status : ℕ) (old : L) (before : Standard) (new : L) (after : Standard) : Type 0 where
  pub options : Options
  pub in_range : InRange options
  pub result : Result Bool Ended
  pub ends : ProgramEnds b options old before.input before.output result new after.input after.output
  pub status_is : status ≡ status_of result
  pub no_faults : after.faults ≡ before.faults

-- what is told of a journal that failed
abbrev pub journal_fault : List ℕ → List ℕ
journal_fault name = codes "fault journal " ++ name ++ codes "\n"

-- it was told, or a front of it; or there was no memory for its text
abbrev pub TellsJournal : List ℕ → ℕ → Output → Output → Type 0
TellsJournal name status f told =
    ((status ≡ 3) × (WritesText (journal_fault name) f told ⊎ WritesFront (journal_fault name) f told)) ⊎ ((status ≡ 1) × (told ≡ f))

abbrev pub TellsStopped : Result Bool Stopped → ℕ → Output → Output → Type 0
TellsStopped (Ok accepted) status f told = (status ≡ status_of (Ok accepted)) × (told ≡ f)
TellsStopped (Err (Run e)) status f told = (status ≡ status_of (Err e)) × (told ≡ f)
TellsStopped (Err (JournalFile name)) status f told = TellsJournal (string_bytes name) status f told

-- the words gave options and where journals stand, and the program was run by them
pub record RunsJournaled {K L : Type 0} (k : KeeperSites K) (serves calls : LinkRequest L) (kept : Kept) (Fails : StoreError → Type 0) (status : ℕ) (old : L) (before : Standard) (new : L) (after : Standard) : Type 0 where
  pub options : Options
  pub in_range : InRange options
  pub prefix : List ℕ
  pub result : Result Bool Stopped
  pub ends : JournaledEnds k serves calls kept Fails prefix options old before.input before.output result new after.input after.output
  pub told : TellsStopped result status before.faults after.faults

-- help or the version was written, or a front of it
abbrev pub PutsHelp : List ℕ → ℕ → Output → Output → Type 0
PutsHelp text status w after = ((status ≡ 0) × WritesText text w after) ⊎ ((status ≡ 1) × WritesFront text w after)

-- why the words are refused was written, or a front of it
abbrev pub PutsRefusal : List ℕ → ℕ → Output → Output → Type 0
PutsRefusal text status w after = (status ≡ 2) × (WritesText text w after ⊎ WritesFront text w after)

-- What is told in place of a run: help, to the output; why the words are refused, to the output of faults; or nothing,
-- for want of memory.
abbrev pub TellsWords : ℕ → Output → Output → Output → Output → Type 0
TellsWords status w f after told =
    ((text : List ℕ) × PutsHelp text status w after × (told ≡ f))
    ⊎ (((text : List ℕ) × PutsRefusal text status f told × (after ≡ w))
    ⊎ ((status ≡ 1) × (after ≡ w) × (told ≡ f)))

-- the words gave no options; nothing was read, and no link was asked for
abbrev pub RunsNot : {L : Type 0} → ℕ → L → Standard → L → Standard → Type 0
RunsNot status old before new after = TellsWords status before.output before.faults after.output after.faults × (after.input ≡ before.input) × (new ≡ old)

-- over sites in memory, or over keepers, of journals that had this, where it is known, and one of which may have failed
abbrev pub Exits : {S K L : Type 0} → Workbench S L → KeeperSites K → Kept → (StoreError → Type 0) → ℕ → L → Standard → L → Standard → Type 0
Exits b k kept Fails status old before new after =
    RunsBy b status old before new after ⊎ (RunsJournaled k b.serves b.calls kept Fails status old before new after ⊎ RunsNot status old before new after)
