-- Scripts: the lines in front of the first `.begin`, the sites that they open, and what is told of a script that opens
-- none.
use Rattle.std.specs.Prelude.{◌≡◌, ◌⊎◌, ◌≤◌, ℕ, zero, suc, Bool, true, false, if◌then◌else◌, List, [], ◌∷◌, ◌++◌, length, codes, decimal, Option, Some, None, option_map, Ok, Err}
use Rattle.std.specs.List.{AllByRecursion}
use Rattle.std.specs.Str.{bytes_eq, is_utf8}
use Rattle.std.specs.Io.KnownBytes.{IsAtEnd}
use Rattle.td_semantics.specs.declared.broken.BrokenTest.TheVariants as broken
use Rattle.td_io.specs.Lines.{raw_lines, content, IsWholeLine, IsOfOneLine}
use Rattle.td_semantics.specs.Databases.{DatabaseData}
use Rattle.td_semantics.specs.Scripts.{Opens}
use Rattle.td_semantics.specs.declared.error.ScriptError.{ScriptError}
use Rattle.td_semantics.specs.declared.error.ScriptError.TheVariants.{Syntax, IllTyped, OpeningRaised, OpeningBroken, OutOfMemory}
use Rattle.td_replica.specs.NewSites.{newly_opened}
use Rattle.td_listings.specs.Texts.{shown_raise}
use Rattle.td_answers.specs.Sites.{Sites}
use Rattle.td_workbench.specs.declared.opening.Options.{Options}

abbrev pub is_begin : List ℕ → Bool
is_begin raw = bytes_eq (content raw) (codes ".begin")

-- the bytes of the lines before the first `.begin`, and the lines behind it
abbrev pub script_then : List (List ℕ) → Option (List ℕ × List (List ℕ))
script_then [] = None
script_then (l ∷ ls) = if is_begin l then Some ([], ls) else option_map (λ (p : List ℕ × List (List ℕ)). (l ++ p.0, p.1)) (script_then ls)

-- the bytes say this script, and these lines behind it
abbrev pub Says : List ℕ → List ℕ → List (List ℕ) → Type 0
Says bytes script raws = script_then (raw_lines bytes) ≡ Some (script, raws)

-- the line is not `.begin`
abbrev pub IsOfScript : List ℕ → Type 0
IsOfScript raw = is_begin raw ≡ false

-- whole lines, none of which is `.begin`, and a part of one more
pub record IsUnfinished (bytes : List ℕ) (IsPart : List ℕ → Type 0) : Type 0 where
  pub before : List (List ℕ)
  pub part : List ℕ
  pub lines : raw_lines bytes ≡ before ++ raw_lines part
  pub whole : AllByRecursion IsWholeLine before
  pub of_script : AllByRecursion IsOfScript before
  pub is_part : IsPart part

-- the most bytes of a script
abbrev pub most_script_bytes : ℕ
most_script_bytes = 65536

-- ---- a script that opens sites

-- new sites, whose numbers follow one another
abbrev pub new_sites : List ℕ → ℕ → ℕ → ℕ → Sites
new_sites script limit first zero = []
new_sites script limit first (suc n) = newly_opened script first limit ∷ new_sites script limit (suc first) n

pub record IsAccepted (options : Options) (script : List ℕ) (sites : Sites) : Type 0 where
  pub text : is_utf8 script ≡ true
  pub database : DatabaseData
  pub opens : Opens script (Ok database)
  pub sites_are : sites ≡ new_sites script options.limit options.first options.sites

-- ready N
abbrev pub ready : ℕ → List ℕ
ready n = codes "ready " ++ decimal n ++ codes "\n"

-- ---- a script that is refused

-- Bytes that are no text are no script. Memory is wanted only where the bytes may be a script.
abbrev pub IsRefusedScript : List ℕ → ScriptError → Type 0
IsRefusedScript script Syntax = (is_utf8 script ≡ false) ⊎ Opens script (Err Syntax)
IsRefusedScript script IllTyped = (is_utf8 script ≡ true) × Opens script (Err IllTyped)
IsRefusedScript script (OpeningRaised e) = (is_utf8 script ≡ true) × Opens script (Err (OpeningRaised e))
IsRefusedScript script (OpeningBroken b) = (is_utf8 script ≡ true) × Opens script (Err (OpeningBroken b))
IsRefusedScript script OutOfMemory = (is_utf8 script ≡ true) × (length script ≤ most_script_bytes)

abbrev pub script_fault : ScriptError → List ℕ
script_fault Syntax = codes "fault script syntax\n"
script_fault IllTyped = codes "fault script type\n"
script_fault (OpeningRaised e) = codes "fault script raised " ++ shown_raise e ++ codes "\n"
script_fault (OpeningBroken (broken.Key relvar)) = codes "fault script broken key " ++ relvar ++ codes "\n"
script_fault (OpeningBroken (broken.Constraint name)) = codes "fault script broken constraint " ++ name ++ codes "\n"
script_fault OutOfMemory = codes "fault script memory\n"

abbrev pub end_fault : List ℕ
end_fault = codes "fault script end\n"

-- no line is `.begin`, to the end of the input
abbrev pub HasNoEnd : List ℕ → Option (List ℕ) → List ℕ → Type 0
HasNoEnd bytes left text = (script_then (raw_lines bytes) ≡ None) × IsAtEnd left × (text ≡ end_fault)

-- the script is refused, and nothing behind it was read
abbrev pub HasFault : List ℕ → List ℕ → Type 0
HasFault bytes text = (script : List ℕ) × (e : ScriptError) × Says bytes script [] × IsRefusedScript script e × (text ≡ script_fault e)

-- there was no memory for the script
abbrev pub IsNotKept : List ℕ → List ℕ → Type 0
IsNotKept bytes text = IsUnfinished bytes IsOfOneLine × (text ≡ script_fault OutOfMemory)

-- what is told of bytes that open no sites
abbrev pub TellsFault : List ℕ → Option (List ℕ) → List ℕ → Type 0
TellsFault bytes left text = HasNoEnd bytes left text ⊎ (HasFault bytes text ⊎ IsNotKept bytes text)

-- what is told where the sites are ready, before anything behind the script is read
abbrev pub TellsReady : Options → List ℕ → List ℕ → Type 0
TellsReady options bytes text = (script : List ℕ) × (sites : Sites) × Says bytes script [] × IsAccepted options script sites × (text ≡ ready options.sites)
