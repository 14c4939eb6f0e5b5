-- What opening a site answers: the first refusal in order, or a site that holds nothing.
use Rattle.std.specs.Prelude.{◌≡◌, ℕ, true, false, List, [], None, Result, Ok, Err}
use Rattle.td_semantics.specs.Databases.{DatabaseData}
use Rattle.td_semantics.specs.Scripts as scripts
use Rattle.td_replica.specs.Seen.{Seen, is_limit}
use Rattle.td_replica.specs.declared.refusal.OpenError.{OpenError}
use Rattle.td_semantics.specs.declared.error.ScriptError.TheVariants as script_error
use Rattle.td_replica.specs.declared.refusal.OpenError.TheVariants.{BadSite, BadLimit, Syntax, IllTyped, OpeningRaised, OpeningBroken, OutOfMemory}

abbrev pub newly_opened : List ℕ → ℕ → ℕ → Seen
newly_opened script site limit = record { script = script; site = site; limit = limit; entries = []; live = true }

-- the number and the limit are those of a site
abbrev pub Fit : ℕ → ℕ → Type 0
Fit site limit = (site ≡ 0 → ⊥) × (is_limit limit ≡ true)

-- a site, or why there is none
abbrev pub OpensSite : List ℕ → ℕ → ℕ → Result Seen OpenError → Type 0
OpensSite script site limit (Ok s) = Fit site limit × (d : DatabaseData) × scripts.OpensOn script None d × (s ≡ newly_opened script site limit)
OpensSite script site limit (Err BadSite) = site ≡ 0
OpensSite script site limit (Err BadLimit) = (site ≡ 0 → ⊥) × (is_limit limit ≡ false)
OpensSite script site limit (Err Syntax) = Fit site limit × scripts.Opens script (Err script_error.Syntax)
OpensSite script site limit (Err IllTyped) = Fit site limit × scripts.Opens script (Err script_error.IllTyped)
OpensSite script site limit (Err (OpeningRaised e)) = Fit site limit × scripts.Opens script (Err (script_error.OpeningRaised e))
OpensSite script site limit (Err (OpeningBroken b)) = Fit site limit × scripts.Opens script (Err (script_error.OpeningBroken b))
OpensSite script site limit (Err OutOfMemory) = Fit site limit × scripts.Opens script (Err script_error.OutOfMemory)
