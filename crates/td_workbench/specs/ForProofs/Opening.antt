-- What is told of a script that is refused, and what running the lines behind an accepted one comes to.
use Rattle.std.specs.Prelude.{◌≡◌, ◌⊎◌, ℕ, Bool, true, false, List, option_map, Result, Ok, Err, String, string_bytes}
use Rattle.std.specs.Global.{Global}
use Rattle.std.specs.declared.alloc.AllocError.{AllocError}
use Rattle.td_io.specs.Views.{Input, Output}
use Rattle.td_listings.specs.Writings.{WritesFront}
use Rattle.td_semantics.specs.declared.error.ScriptError.{ScriptError}
use Rattle.td_semantics.specs.declared.error.ScriptError.TheVariants.{Syntax, IllTyped, OpeningRaised, OpeningBroken, OutOfMemory}
use Rattle.td_semantics.specs.Databases.{DatabaseData}
use Rattle.td_semantics.specs.Scripts.{Opens}
use Rattle.td_answers.specs.Sites.{Sites}
use Rattle.td_workbench.specs.Streams.{most_reads, WritesText}
use Rattle.td_workbench.specs.Programs.{ProgramEnds}
use Rattle.td_workbench.specs.Runs.{LineStep, State, Workbench}
use Rattle.td_workbench.specs.ForProofs.Reading.{HasScript}
use Rattle.td_workbench.specs.declared.script.Script.{Script}
use Rattle.td_workbench.specs.ForProofs.Serving.{Serves}
use Rattle.td_workbench.specs.declared.opening.Options.{Options}
use Rattle.td_workbench.specs.Scripts.{new_sites, script_fault}
use Rattle.td_workbench.specs.declared.run.Ended.{Ended}
use Rattle.td_workbench.specs.declared.run.Ended.TheVariants as ended

-- what may be told of a refusal: it, or that there is no memory for its text
abbrev pub MayTell : ScriptError → ScriptError → Type 0
MayTell (OpeningRaised e) told = (told ≡ OpeningRaised e) ⊎ (told ≡ OutOfMemory)
MayTell (OpeningBroken b) told = (told ≡ OpeningBroken b) ⊎ (told ≡ OutOfMemory)
MayTell Syntax told = told ≡ Syntax
MayTell IllTyped told = told ≡ IllTyped
MayTell OutOfMemory told = told ≡ OutOfMemory

-- a fault was told, or a front of it
abbrev pub PutsFault : List ℕ → Result Bool Ended → Output → Output → Type 0
PutsFault text (Ok true) w after = ⊥
PutsFault text (Ok false) w after = WritesText text w after
PutsFault text (Err ended.WriteFault) w after = WritesFront text w after
PutsFault text (Err ended.ReadFault) w after = ⊥
PutsFault text (Err ended.OutOfMemory) w after = ⊥

abbrev pub TellsRefusal : ScriptError → Result Bool Ended → Output → Output → Type 0
TellsRefusal e r w after = (told : ScriptError) × MayTell e told × PutsFault (script_fault told) r w after

-- the script opens, and these are its sites
abbrev pub OpensAll : Options → List ℕ → Sites → Type 0
OpensAll options script sites = (d : DatabaseData) × Opens script (Ok d) × (sites ≡ new_sites script options.limit options.first options.sites)

-- what the links are then
abbrev pub AreThen : {S L : Type 0} → L → State S L → Type 0
AreThen new x = x.1 ≡ new

-- the lines behind the script, which are none where its `.begin` ended the input
abbrev pub BehindEnds : {X : Type 0} → LineStep X → (X → Type 0) → Bool → X → ℕ → Input → Output → Result (Unit {0}) Ended → Input → Output → Type 0
BehindEnds step End true old reads from w r left after = (r ≡ Ok tt) × (left ≡ from) × (after ≡ w) × End old
BehindEnds {X} step End false old reads from w r left after = (new : X) × End new × Serves step old reads from w r new left after

-- the text was written, and what came of the lines behind the script
abbrev pub ReadyBehind : {X : Type 0} → LineStep X → (X → Type 0) → Bool → List ℕ → X → ℕ → Input → Output → Result (Unit {0}) Ended → Input → Output → Type 0
ReadyBehind step End is_last text old reads from w r left after = (told : Output) × WritesText text w told × BehindEnds step End is_last old reads from told r left after

abbrev pub ReadyEnds : {X : Type 0} → LineStep X → (X → Type 0) → Bool → List ℕ → X → ℕ → Input → Output → Result Bool Ended → Input → Output → Type 0
ReadyEnds step End is_last text old reads from w (Ok true) left after = ReadyBehind step End is_last text old reads from w (Ok tt) left after
ReadyEnds step End is_last text old reads from w (Ok false) left after = ⊥
ReadyEnds step End is_last text old reads from w (Err e) left after =
    ReadyBehind step End is_last text old reads from w (Err e) left after ⊎ ((e ≡ ended.WriteFault) × (left ≡ from) × WritesFront text w after × End old)

-- a text that was made, or that there was no memory for it
abbrev pub TellsMade : Result (String Global) AllocError → Result Bool Ended → Output → Output → Type 0
TellsMade (Ok text) r w after = PutsFault (string_bytes text) r w after
TellsMade (Err e) r w after = PutsFault (script_fault OutOfMemory) r w after

-- what the program ends in, whatever was read before: bytes that say the script, which was kept, by all reads but so
-- many
abbrev pub StartEnds : {S L : Type 0} → Workbench S L → Options → Script → ℕ → L → Input → Output → Result Bool Ended → L → Input → Output → Type 0
StartEnds b options script reads old mid w r new left after =
    (from : Input) → HasScript most_reads reads from mid (option_map (λ v. v.items) script.bytes) script.is_last → ProgramEnds b options old from w r new left after
