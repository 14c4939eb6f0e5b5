-- What answering one line comes to, and what a run comes to by so many reads.
use Rattle.std.specs.Prelude.{◌≡◌, ◌⊎◌, ℕ, ◌-◌, Bool, true, false, List, [], length, Option, Result, Ok, Err}
use Rattle.std.specs.Io.KnownBytes.{Keeps}
use Rattle.td_io.specs.Counted.{counted}
use Rattle.td_io.specs.Lines.{raw_lines, IsWholeLine}
use Rattle.td_io.specs.declared.lines.LineError.{LineError}
use Rattle.td_io.specs.declared.lines.LineError.TheVariants as line_error
use Rattle.td_io.specs.declared.streams.Failed.{Failed}
use Rattle.td_commands.specs.Lines.{Line, quit, is_quit}
use Rattle.td_io.specs.Views.{Input, Output}
use Rattle.td_listings.specs.Writings.{WritesFront}
use Rattle.td_workbench.specs.Streams.{AppendsText, HandsOnNot}
use Rattle.td_workbench.specs.Runs.{said, DoesNotQuit, Quits, RunsOut, Reaches, StopsReading, StopsWriting, Ends, LineStep}
use Rattle.td_workbench.specs.declared.run.Ended.{Ended}
use Rattle.td_workbench.specs.declared.run.Ended.TheVariants as ended

-- the text was written, and the run goes on; or a front of it was
abbrev pub WritesOn : List ℕ → Result Bool Failed → Output → Output → Type 0
WritesOn text (Ok quits) w after = (quits ≡ false) × AppendsText text w after
WritesOn text (Err e) w after = WritesFront text w after

-- true says that the line is `.quit`
abbrev pub LineEnds : {X : Type 0} → LineStep X → X → Line → Result Bool Failed → X → Output → Output → Type 0
LineEnds step old line (Ok true) new w after = (line ≡ quit) × step old quit [] new × (after ≡ w)
LineEnds step old line (Ok false) new w after = (text : List ℕ) × (is_quit line ≡ false) × step old line text new × AppendsText text w after
LineEnds step old line (Err e) new w after = (text : List ℕ) × (is_quit line ≡ false) × step old line text new × WritesFront text w after

-- true says that the run is over
abbrev pub ReadEnds : {X : Type 0} → LineStep X → X → List ℕ → Bool → Option (List ℕ) → Result Bool Failed → X → Output → Output → Type 0
ReadEnds step old raw is_last left (Ok true) new w after = (text : List ℕ) × (Quits step old (raw_lines raw) left text new ⊎ RunsOut step old (raw_lines raw) left text new) × AppendsText text w after
ReadEnds step old raw is_last left (Ok false) new w after = (text : List ℕ) × (is_last ≡ false) × IsWholeLine raw × DoesNotQuit raw × step old (said raw) text new × AppendsText text w after
ReadEnds step old raw is_last left (Err e) new w after = (answer : List ℕ) × Reaches step old (raw_lines raw) left [] answer new × WritesFront answer w after

-- how a run ended over these bytes, before what was written is handed on
abbrev pub LinesEnd : {X : Type 0} → LineStep X → X → List (List ℕ) → ℕ → List ℕ → Input → Output → Result (Unit {0}) Ended → X → Input → Output → Type 0
LinesEnd step old raws spare bytes from w (Err ended.WriteFault) new left after =
    StopsWriting step old raws bytes from w new left after ⊎ ((text : List ℕ) × StopsReading step old raws spare bytes from (Err ended.WriteFault) new left text × HandsOnNot text w after)
LinesEnd step old raws spare bytes from w r new left after = (text : List ℕ) × StopsReading step old raws spare bytes from r new left text × AppendsText text w after

-- a run over lines, by so many reads, before what was written is handed on
pub record ServesLines {X : Type 0} (step : LineStep X) (old : X) (reads : ℕ) (from : Input) (w : Output) (r : Result (Unit {0}) Ended) (new : X) (left : Input) (after : Output) : Type 0 where
  pub bytes : List ℕ
  pub ends : LinesEnd step old (raw_lines bytes) (reads - length bytes) bytes from w r new left after

-- a run over lines, by so many reads
pub record Serves {X : Type 0} (step : LineStep X) (old : X) (reads : ℕ) (from : Input) (w : Output) (r : Result (Unit {0}) Ended) (new : X) (left : Input) (after : Output) : Type 0 where
  pub bytes : List ℕ
  pub ends : Ends step old (raw_lines bytes) (reads - length bytes) bytes from w r new left after

-- what was written is handed on, unless the writer failed before; or it fails now
abbrev pub HandsOn : Result (Unit {0}) Ended → Result (Unit {0}) Ended → Output → Output → Type 0
HandsOn (Err ended.WriteFault) r w after = (r ≡ Err ended.WriteFault) × (after ≡ w)
HandsOn told r w after =
    Keeps w.held after.held × (((r ≡ told) × (after.faults ≡ w.faults) × (after.is_flushed ≡ true)) ⊎ ((r ≡ Err ended.WriteFault) × (after.faults ≡ counted w.faults)))

abbrev pub ended_by : LineError → Ended
ended_by line_error.OutOfMemory = ended.OutOfMemory
ended_by line_error.ReadFault = ended.ReadFault
ended_by line_error.NoReadsLeft = ended.ReadFault
