-- The program over sites that keep journals: behind the script, and before the lines, each site comes back from its
-- own.
use Rattle.std.specs.Prelude.{◌≡◌, ◌⊎◌, ℕ, Bool, List, [], ◌∷◌, ◌++◌, codes, decimal, Option, Result, Ok, Err, string_bytes}
use Rattle.td_io.specs.Views.{Input, Output}
use Rattle.td_io.specs.declared.streams.Sink as sink
use Rattle.td_io.specs.Views.{output_of}
use Rattle.td_journal.specs.declared.stores.StoreError.{StoreError}
use Rattle.td_replica.specs.Seen.{Seen}
use Rattle.td_replica.specs.declared.replica.Replica as replica
use Rattle.td_journal.specs.Keepers.{KeepsJournal}
use Rattle.td_journal.specs.Stores.{GoesOn, KeepsNot}
use Rattle.td_journal.specs.Views.{JournalFails, KeeperData, seen_of}
use Rattle.td_journal.specs.declared.stores.StoreError.TheVariants as store_error
use Rattle.td_answers.specs.Asking.{LinkRequest}
use Rattle.td_answers.specs.Sites.{Sites}
use Rattle.td_workbench.specs.Programs.{EndsBy}
use Rattle.td_workbench.specs.Runs.{Workbench}
use Rattle.td_workbench.specs.Scripts.{IsAccepted, Says}
use Rattle.td_workbench.specs.Streams.{ReadsBytes}
use Rattle.td_workbench.specs.declared.journaled.Stopped.{Stopped}
use Rattle.td_workbench.specs.declared.journaled.Stopped.TheVariants.{JournalFile, Run}
use Rattle.td_workbench.specs.declared.opening.Options.{Options}
use Rattle.td_workbench.specs.declared.run.Ended.TheVariants.{OutOfMemory}

-- what the journal of each name had, where that is known
abbrev pub Kept : Type 0
Kept = List ℕ → Option (List ℕ)

-- the name of a site's journal
abbrev pub journal_name : List ℕ → ℕ → List ℕ
journal_name prefix site = prefix ++ decimal site ++ codes ".tdj"

-- what sites that keep journals are seen as, what the writer of each journal holds, whether it has failed between two
-- states, and whether it is known to hold the journal
pub record KeeperSites (S : Type 0) : Type 1 where
  pub seen : S → Seen
  pub written : S → Output
  pub failed : S → S → Type 0
  pub journaled : S → Type 0

-- these are keepers, whose writers are those that journals give out
abbrev pub keepers : {R W : Type 0} → replica.Ghosts R → sink.Ghosts W → KeeperSites (KeeperData R W)
keepers site writer = record { seen = seen_of site; written = λ k. output_of writer k.writer; failed = JournalFails site writer; journaled = KeepsJournal site writer }

abbrev pub with_links : {S L : Type 0} → KeeperSites S → LinkRequest L → LinkRequest L → Workbench S L
with_links k serves calls = record { seen = k.seen; failed = k.failed; journaled = k.journaled; serves = serves; calls = calls }

-- each site that was opened has come back from its journal, and goes on with it
abbrev pub ComeBack : {S : Type 0} → KeeperSites S → Kept → List ℕ → Sites → List S → Type 0
ComeBack k kept prefix [] [] = Unit {0}
ComeBack k kept prefix [] (t ∷ ts) = ⊥
ComeBack k kept prefix (s ∷ ss) [] = ⊥
ComeBack k kept prefix (s ∷ ss) (t ∷ ts) = GoesOn (kept (journal_name prefix s.site)) s (k.seen t) (k.written t) × ComeBack k kept prefix ss ts

-- Why a site does not go on with its journal: for want of memory, or since its journal is refused.
abbrev pub KeepsOneNot : Kept → (StoreError → Type 0) → List ℕ → Seen → Stopped → Type 0
KeepsOneNot kept Fails prefix s (Run e) = e ≡ OutOfMemory
KeepsOneNot kept Fails prefix s (JournalFile name) =
    (string_bytes name ≡ journal_name prefix s.site) × KeepsNot Fails (kept (journal_name prefix s.site)) s store_error.JournalFile

-- Why one of them does not, behind those that came back; or that there was no memory for all.
abbrev pub KeepsSomeNot : {S : Type 0} → KeeperSites S → Kept → (StoreError → Type 0) → List ℕ → Sites → Stopped → Type 0
KeepsSomeNot k kept Fails prefix sites (Run e) = e ≡ OutOfMemory
KeepsSomeNot {S} k kept Fails prefix sites (JournalFile name) =
    (before : Sites) × (back : List S) × (s : Seen) × (rest : Sites) × (sites ≡ before ++ s ∷ rest) × ComeBack k kept prefix before back
    × KeepsOneNot kept Fails prefix s (JournalFile name)

-- the script was accepted, but not all of its sites came back; nothing was told, nothing behind the script was read,
-- and no link was asked for
pub record ComeBackNot {S L : Type 0} (k : KeeperSites S) (kept : Kept) (Fails : StoreError → Type 0) (prefix : List ℕ) (options : Options) (old : L) (from : Input) (w : Output) (e : Stopped) (new : L) (left : Input) (after : Output) : Type 0 where
  pub bytes : List ℕ
  pub script : List ℕ
  pub read : ReadsBytes bytes from left
  pub says : Says bytes script []
  pub opened : Sites
  pub accepted : IsAccepted options script opened
  pub cause : KeepsSomeNot k kept Fails prefix opened e
  pub unasked : new ≡ old
  pub untold : after ≡ w

-- a site whose journal fails is not open from then on
abbrev pub AnyWay : {S : Type 0} → List S → Type 0
AnyWay sites = Unit {0}

abbrev pub JournaledEnds : {S L : Type 0} → KeeperSites S → LinkRequest L → LinkRequest L → Kept → (StoreError → Type 0) → List ℕ → Options → L → Input → Output → Result Bool Stopped → L → Input → Output → Type 0
JournaledEnds k serves calls kept Fails prefix options old from w (Ok accepted) new left after =
    EndsBy (with_links k serves calls) (ComeBack k kept prefix) AnyWay options old from w (Ok accepted) new left after
JournaledEnds k serves calls kept Fails prefix options old from w (Err (Run e)) new left after =
    EndsBy (with_links k serves calls) (ComeBack k kept prefix) AnyWay options old from w (Err e) new left after ⊎ ComeBackNot k kept Fails prefix options old from w (Run e) new left after
JournaledEnds k serves calls kept Fails prefix options old from w (Err (JournalFile name)) new left after = ComeBackNot k kept Fails prefix options old from w (JournalFile name) new left after
