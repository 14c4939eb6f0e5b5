-- How the program ends: what it tells of its script, and the run over the lines behind it.
use Rattle.std.specs.Prelude.{◌≡◌, ◌⊎◌, ◌≤◌, ℕ, Bool, true, false, List, map, Result, Ok, Err}
use Rattle.std.specs.List.{AllByRecursion}
use Rattle.td_io.specs.Views.{Input, Output}
use Rattle.td_headings.specs.Catalogues.{CatalogueData}
use Rattle.td_listings.specs.Writings.{WritesFront}
use Rattle.td_answers.specs.Sites.{Sites, AreOfScript}
use Rattle.td_workbench.specs.Streams.{ReadsBytes, ReadsNoMore, reads_left, WritesText}
use Rattle.td_workbench.specs.Runs.{AnswersLine, Ends, IsCut, Workbench}
use Rattle.td_workbench.specs.Scripts.{IsAccepted, IsUnfinished, Says, TellsFault, TellsReady, ready}
use Rattle.td_workbench.specs.declared.opening.Options.{Options}
use Rattle.td_workbench.specs.declared.run.Ended.{Ended}
use Rattle.td_workbench.specs.declared.run.Ended.TheVariants.{OutOfMemory, ReadFault, WriteFault}

-- what the words of the program allow
pub record InRange (options : Options) : Type 0 where
  pub some_sites : 1 ≤ options.sites
  pub few_sites : options.sites ≤ 16
  pub some_first : 1 ≤ options.first
  pub low_first : options.first ≤ 65520
  pub some_limit : 1 ≤ options.limit
  pub low_limit : options.limit ≤ 100000

-- The sites were told to be ready, and then the lines behind the script were run. How the sites that the script opens
-- begin, and what they end as, is a kind of sites' own.
pub record ProgramRuns {S L : Type 0} (b : Workbench S L) (Begin : Sites → List S → Type 0) (End : List S → Type 0) (options : Options) (old : L) (from : Input) (w : Output) (r : Result (Unit {0}) Ended) (new : L) (left : Input) (after : Output) : Type 0 where
  pub bytes : List ℕ
  pub script : List ℕ
  pub raws : List (List ℕ)
  pub says : Says bytes script raws
  pub opened : Sites
  pub accepted : IsAccepted options script opened
  pub begun : List S
  pub begin : Begin opened begun
  pub catalogue : CatalogueData
  pub of_script : AreOfScript catalogue (map b.seen begun)
  pub told : Output
  pub ready_told : WritesText (ready options.sites) w told
  pub ended : List S
  pub end : End ended
  pub ends : Ends (AnswersLine b catalogue) (begun, old) raws (reads_left bytes) bytes from told r (ended, new) left after

-- no site was ready: the reader failed within the script, or the writer as it was told what came of the script
abbrev pub ProgramStops : Options → Input → Output → Ended → Input → Output → Type 0
ProgramStops options from w ReadFault left after = (bytes : List ℕ) × ReadsNoMore (reads_left bytes) bytes from left × IsUnfinished bytes IsCut × (after ≡ w)
ProgramStops options from w WriteFault left after =
    (bytes : List ℕ) × ReadsBytes bytes from left × (text : List ℕ) × (TellsFault bytes left.left text ⊎ TellsReady options bytes text) × WritesFront text w after
ProgramStops options from w OutOfMemory left after = ⊥

-- true says that the script was accepted, and false that its fault was told; links are asked for nothing before the
-- lines
abbrev pub EndsBy : {S L : Type 0} → Workbench S L → (Sites → List S → Type 0) → (List S → Type 0) → Options → L → Input → Output → Result Bool Ended → L → Input → Output → Type 0
EndsBy b Begin End options old from w (Ok true) new left after = ProgramRuns b Begin End options old from w (Ok tt) new left after
EndsBy b Begin End options old from w (Ok false) new left after =
    (bytes : List ℕ) × ReadsBytes bytes from left × (text : List ℕ) × TellsFault bytes left.left text × WritesText text w after × (new ≡ old)
EndsBy b Begin End options old from w (Err e) new left after = ProgramRuns b Begin End options old from w (Err e) new left after ⊎ (ProgramStops options from w e left after × (new ≡ old))

-- sites that begin as the script opens them
abbrev pub AsOpened : {S L : Type 0} → Workbench S L → Sites → List S → Type 0
AsOpened b opened begun = map b.seen begun ≡ opened

abbrev pub AreAllOpen : {S L : Type 0} → Workbench S L → List S → Type 0
AreAllOpen b sites = AllByRecursion (λ s. s.live ≡ true) (map b.seen sites)

-- the run over sites in memory, which stay open
abbrev pub ProgramEnds : {S L : Type 0} → Workbench S L → Options → L → Input → Output → Result Bool Ended → L → Input → Output → Type 0
ProgramEnds b options old from w r new left after = EndsBy b (AsOpened b) (AreAllOpen b) options old from w r new left after
