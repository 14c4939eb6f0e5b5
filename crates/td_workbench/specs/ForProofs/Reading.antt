-- What is kept of a script, and what reading one comes to.
use Rattle.std.specs.Prelude.{◌≡◌, ◌≤◌, ◌<◌, ℕ, ◌+◌, ◌-◌, Bool, true, false, List, [], ◌++◌, length, Option, Some, None, option_map, Result, Ok, Err}
use Rattle.std.specs.Io.KnownBytes.{IsAtEnd}
use Rattle.td_io.specs.Lines.{raw_lines, IsOfOneLine}
use Rattle.td_io.specs.declared.lines.LineError.{LineError}
use Rattle.td_io.specs.declared.lines.LineError.TheVariants as line_error
use Rattle.td_io.specs.Views.{Input}
use Rattle.td_workbench.specs.Runs.{IsCut}
use Rattle.td_workbench.specs.Scripts.{IsUnfinished, Says, script_then, most_script_bytes}
use Rattle.td_workbench.specs.Streams.{ReadsBytes, ReadsNoMore}
use Rattle.td_workbench.specs.declared.script.Script.{Script}
use Rattle.td_workbench.specs.declared.script.Unready.{Unready}
use Rattle.td_workbench.specs.declared.script.Unready.TheVariants.{End, OutOfMemory, ReadFault}

-- all of the text, or nothing of a longer one
abbrev pub IsKeptScript : List ℕ → Option (List ℕ) → Type 0
IsKeptScript text (Some bytes) = (bytes ≡ text) × (length text ≤ most_script_bytes)
IsKeptScript text None = most_script_bytes < length text

-- whatever follows the bytes, they say this script; where the input ended behind `.begin`, nothing does
abbrev pub Leads : List ℕ → List ℕ → Bool → List ℕ → Type 0
Leads bytes text is_last more = (is_last ≡ true → more ≡ []) → Says (bytes ++ more) text (raw_lines more)

-- the bytes up to `.begin` were read, each by one of the reads
pub record HasScript (reads now : ℕ) (from left : Input) (kept : Option (List ℕ)) (is_last : Bool) : Type 0 where
  pub bytes : List ℕ
  pub text : List ℕ
  pub read : ReadsBytes bytes from left
  pub leads : (more : List ℕ) → Leads bytes text is_last more
  pub is_kept : IsKeptScript text kept
  pub at_end : is_last ≡ true → IsAtEnd left.left
  pub spent : is_last ≡ false → now + length bytes ≡ reads

abbrev pub ScriptRead : ℕ → ℕ → Input → Input → Result Script Unready → Type 0
ScriptRead reads now from left (Ok script) = HasScript reads now from left (option_map (λ v. v.items) script.bytes) script.is_last
ScriptRead reads now from left (Err End) = (bytes : List ℕ) × ReadsBytes bytes from left × (script_then (raw_lines bytes) ≡ None) × IsAtEnd left.left
ScriptRead reads now from left (Err OutOfMemory) = (bytes : List ℕ) × ReadsBytes bytes from left × IsUnfinished bytes IsOfOneLine
ScriptRead reads now from left (Err ReadFault) = (bytes : List ℕ) × ReadsNoMore (reads - length bytes) bytes from left × IsUnfinished bytes IsCut

abbrev pub unready_by : LineError → Unready
unready_by line_error.OutOfMemory = OutOfMemory
unready_by line_error.ReadFault = ReadFault
unready_by line_error.NoReadsLeft = ReadFault
