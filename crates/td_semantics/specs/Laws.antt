-- The laws of scripts and steps.
use Rattle.std.specs.Prelude.{◌≡◌, ℕ, true, List, Option, None, Err}
use Rattle.td_headings.specs.Catalogues.{CatalogueData}
use Rattle.td_headings.specs.declared.defined.Test.{Test}
use Rattle.td_algebra.specs.declared.errors.Stop.{Stop}
use Rattle.td_semantics.specs.Databases.{DatabaseData, IsLegal}
use Rattle.td_semantics.specs.Scripts.{IsScriptOf, Opens, OpensOn}
use Rattle.td_semantics.specs.declared.error.ScriptError.{ScriptError}
use Rattle.td_semantics.specs.declared.error.ScriptError.TheVariants.{OutOfMemory}
use Rattle.td_semantics.specs.declared.outcome.Outcome.{Outcome}
use Rattle.td_semantics.specs.Steps.{Steps}

-- ---- scripts

-- a text is the script of one catalogue
abbrev pub ScriptIsOne : Type 0
ScriptIsOne = (text : List ℕ) (c d : CatalogueData) → IsScriptOf text c → IsScriptOf text d → c ≡ d

-- and opens in one way
abbrev pub OpeningIsOne : Type 0
OpeningIsOne = (text : List ℕ) (f g : Option (Test × Option Stop)) (d e : DatabaseData) → OpensOn text f d → OpensOn text g e → (d ≡ e) × (f ≡ g)

-- one that opens a database is refused for want of memory alone
abbrev pub OpensOrWants : Type 0
OpensOrWants = (text : List ℕ) (d : DatabaseData) (e : ScriptError) → OpensOn text None d → Opens text (Err e) → e ≡ OutOfMemory

-- ---- steps

-- every test is true after a statement where every one was true before
abbrev pub StepIsLegal : Type 0
StepIsLegal = (d e : DatabaseData) (dialect : ℕ) (text : List ℕ) (o : Outcome) → Steps d dialect text o e → IsLegal d → IsLegal e

-- a text has one outcome, and leaves one database
abbrev pub StepIsUnique : Type 0
StepIsUnique = (d e f : DatabaseData) (dialect : ℕ) (text : List ℕ) (o p : Outcome) → Steps d dialect text o e → Steps d dialect text p f → (o ≡ p) × (e ≡ f)
