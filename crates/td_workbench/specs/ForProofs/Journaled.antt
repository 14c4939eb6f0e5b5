-- What a run over journals comes to, behind its script.
use Rattle.std.specs.Prelude.{ℕ, Bool, List, option_map, Result, Ok, Err}
use Rattle.td_io.specs.Views.{Input, Output}
use Rattle.td_journal.specs.declared.stores.StoreError.{StoreError}
use Rattle.td_answers.specs.Asking.{LinkRequest}
use Rattle.td_workbench.specs.Journals.{JournaledEnds, KeeperSites, Kept}
use Rattle.td_workbench.specs.Streams.{most_reads}
use Rattle.td_workbench.specs.ForProofs.Reading.{HasScript}
use Rattle.td_workbench.specs.declared.journaled.Stopped.{Stopped}
use Rattle.td_workbench.specs.declared.journaled.Stopped.TheVariants.{Run}
use Rattle.td_workbench.specs.declared.opening.Options.{Options}
use Rattle.td_workbench.specs.declared.run.Ended.{Ended}
use Rattle.td_workbench.specs.declared.script.Script.{Script}

abbrev pub run_of : Result Bool Ended → Result Bool Stopped
run_of (Ok accepted) = Ok accepted
run_of (Err e) = Err (Run e)

-- what the program ends in, whatever was read before
abbrev pub StartsJournaled : {S L : Type 0} → KeeperSites S → LinkRequest L → LinkRequest L → Kept → (StoreError → Type 0) → List ℕ → Options → Script → ℕ → L → Input → Output → Result Bool Stopped → L → Input → Output → Type 0
StartsJournaled k serves calls kept Fails prefix options script reads old mid w r new left after =
    (from : Input) → HasScript most_reads reads from mid (option_map (λ v. v.items) script.bytes) script.is_last
    → JournaledEnds k serves calls kept Fails prefix options old from w r new left after
